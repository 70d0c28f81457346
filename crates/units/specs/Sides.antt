use Rattle.units.specs.declared.side.Side.{Side}
use Rattle.units.specs.declared.side.Side.TheVariants.{Sell, Buy}

-- the side that a side deals with
abbrev pub counter : Side → Side
counter Sell = Buy
counter Buy = Sell

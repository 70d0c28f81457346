-- What stands where a list ends.
use Rattle.units.specs.declared.side.Side.TheVariants.{Sell}
use Rattle.market.specs.declared.order.Resting.{Resting}
use Rattle.pricing.specs.declared.line.Line.{Line}

-- An order to stand where a list of orders ends.
abbrev pub nothing : Resting
nothing = record {
  order = record {
    number = record { 0 = 0 };
    participant = record { 0 = 0 };
    side = Sell;
    limit = record { 0 = 0 };
    accepted = record { 0 = 0 };
  };
  lots = record { 0 = 0 };
}

-- A line to stand where a list of lines ends.
abbrev pub no_line : Line
no_line = record { price = record { 0 = 0 }; supply = record { 0 = 0 }; demand = record { 0 = 0 } }

use Rattle.std.specs.Prelude.{ℕ, ◌-◌, min, List, [], ◌∷◌}

-- each line gets the lesser of its lots and what earlier lines left of the total
abbrev pub by_time : List ℕ → ℕ → List ℕ
by_time [] left = []
by_time (x ∷ xs) left = min x left ∷ by_time xs (left - min x left)

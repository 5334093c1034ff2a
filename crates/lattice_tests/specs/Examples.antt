-- Elements by the places of their coefficients.
use Rattle.std.specs.Prelude.{ℕ, ℤ, pos, negsuc, List, map, nat_eq, if◌then◌else◌}
use Rattle.std.specs.List.{list_any, range_with_len}

-- the coefficient at place k: 1 at the places of the first list, -1 at those of the second, else 0
abbrev pub placed_at : List ℕ → List ℕ → ℕ → ℤ
placed_at ones minus_ones k =
    if list_any (λ y. nat_eq y k) ones
    then pos 1
    else (if list_any (λ y. nat_eq y k) minus_ones then negsuc 0 else pos 0)

-- the p coefficients
abbrev pub placed : ℕ → List ℕ → List ℕ → List ℤ
placed p ones minus_ones = map (λ k. placed_at ones minus_ones k) (range_with_len 0 p)

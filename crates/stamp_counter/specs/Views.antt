-- What one seat at the counter's table knows, and sums over all seats.
use Rattle.std.specs.Prelude.{ℕ, ◌==◌, ◌+◌, if◌then◌else◌, List, [], ◌∷◌, length}
use Rattle.stamp_counter.specs.declared.views.View.{View}

-- how often the stamp k stands in a list
abbrev pub times : ℕ → List ℕ → ℕ
times k [] = 0
times k (x ∷ stamps) = (if x == k then 1 else 0) + times k stamps

-- how often a view has drawn the stamp k
abbrev pub times_of : ℕ → View → ℕ
times_of k v = times k v.drawn

-- how many stamps a view has drawn
abbrev pub drawn_of : View → ℕ
drawn_of v = length v.drawn

-- how many more a view may draw
abbrev pub left_of : View → ℕ
left_of v = v.left

-- the sum of a count over all views
abbrev pub total : (View → ℕ) → List View → ℕ
total count [] = 0
total count (v ∷ views) = count v + total count views

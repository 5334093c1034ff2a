-- What contracts see of a counter and of its seats.
use Rattle.std.specs.Prelude.{ℕ, List, [], ◌∷◌}
use Rattle.atomic_table.specs.Seated.{TableId}
use Rattle.stamp_counter.specs.declared.views.View.{View}

-- which counter it is, and the sum of its shares
pub record CounterView : Type 0 where
  pub id : List ℕ
  pub all : ℕ

-- one who may draw stamps
pub record SeatView : Type 0 where
  -- the counter that it draws from
  pub counter : List ℕ
  -- a number that each later stamp of it is at least
  pub low : ℕ
  -- the stamps that it drew, in the order of the draws
  pub drawn : List ℕ
  -- how many more it may draw
  pub left : ℕ

-- a seat that has drawn nothing, and may draw so many
abbrev pub fresh_seat : List ℕ → ℕ → SeatView
fresh_seat counter share = record { counter = counter; low = 0; drawn = []; left = share }

-- one for each share
abbrev pub fresh_seats : List ℕ → List ℕ → List SeatView
fresh_seats counter [] = []
fresh_seats counter (share ∷ shares) = fresh_seat counter share ∷ fresh_seats counter shares

-- ---- for the proofs

-- a counter is told by the sum of its shares and by its table, as plain numbers
abbrev pub id_of : TableId → ℕ → List ℕ
id_of t all =
    all ∷ t.words ∷ t.slots ∷ t.views_name ∷ t.atom ∷ t.block ∷ t.offset ∷ t.slot_names

abbrev pub seat_view : TableId → View → SeatView
seat_view t v =
    record { counter = id_of t v.all; low = v.low; drawn = v.drawn; left = v.left }

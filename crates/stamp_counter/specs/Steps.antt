-- The atomic steps of the counter: what becomes of a seat's view, and what a draw tells its caller.
use Rattle.std.specs.Prelude.{ℕ, ◌≡◌, ◌+◌, ◌-◌, ◌≤◌, max, sum, List, [], ◌∷◌, ◌++◌}
use Rattle.std.specs.List.{range_with_len}
use Rattle.atomic_table.specs.Table.{Me}
use Rattle.stamp_counter.specs.declared.views.View.{View}

-- ---- shares are given out, while the counter is made

-- the first seat, with these shares to give
abbrev pub dealing_view : ℕ → List ℕ → View
dealing_view all shares = record {
  low = 0;
  drawn = [];
  left = sum shares;
  all = all;
  shares = shares;
}

abbrev pub first_share : List ℕ → ℕ
first_share [] = 0
first_share (n ∷ shares) = n

abbrev pub other_shares : List ℕ → List ℕ
other_shares [] = []
other_shares (n ∷ shares) = shares

-- the first share is given
abbrev pub giving_view : View → View
giving_view v = record v { left = v.left - first_share v.shares; shares = other_shares v.shares }

-- the seat that it is given to
abbrev pub given_view : View → View
given_view v = record {
  low = v.low;
  drawn = [];
  left = first_share v.shares;
  all = v.all;
  shares = [];
}

-- ---- what one seat knows of the count goes to another

-- a new seat knows it, and may draw nothing
abbrev pub noted_view : View → View
noted_view v = record { low = v.low; drawn = []; left = 0; all = v.all; shares = [] }

-- a seat takes another in
abbrev pub joined_view : View → View → View
joined_view v w = record {
  low = max v.low w.low;
  drawn = v.drawn ++ w.drawn;
  left = v.left + w.left;
  all = v.all;
  shares = v.shares;
}

-- the other is spent
abbrev pub spent_view : View
spent_view = record { low = 0; drawn = []; left = 0; all = 0; shares = [] }

-- ---- a draw

-- so many stamps were drawn, from this one on
abbrev pub drawn_view : View → ℕ → ℕ → View
drawn_view v first count = record v {
  low = first + count;
  drawn = v.drawn ++ range_with_len first count;
  left = v.left - count;
}

-- a seat is its view, and the slots that it has out, of which there are none here
pub record Drew {S : Type 0} (count : ℕ) (before : Me S View) (first : ℕ) (after : Me S View)
    : Type 0 where
  pub least : before.0.low ≤ first
  pub most : first + count ≤ before.0.all
  pub view : after.0 ≡ drawn_view before.0 first count
  pub slots : after.1 ≡ before.1

-- Stamps that the rule tells apart.
use Rattle.std.proofs.Common.{◌≡◌, ◌≢◌, ℕ, arith}
use mathlib.Core.Logic.{dite}
use native.Mathlib.Decide.{ℕ_discrete}
use Rattle.stamp_counter.specs.Views.{times_of}
use Rattle.stamp_counter.specs.Laws.{NoneTwice, OneDrew}
use Rattle.stamp_counter.proofs.Totals.{total_one, total_two}
use Rattle.stamp_counter.proofs.Drawn.{range_once}

pub none_twice : (all : ℕ) → NoneTwice all
none_twice all s i k v r at =
    let a = total_one (times_of k) s.views i v at in
    let b = r.drawn k in
    let c = range_once k 0 r.word in
    omega arith

pub one_drew : (all : ℕ) → OneDrew all
one_drew all s i j k u v r at at' drew drew' = dite (ℕ_discrete i j)
    (λ (e : i ≡ j). e)
    (λ (ne : i ≢ j).
    let a = total_two (times_of k) s.views i j u v ne at at' in
    let b = r.drawn k in
    let c = range_once k 0 r.word in
    absurd (omega arith))

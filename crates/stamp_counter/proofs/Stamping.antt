-- Entries whose stamps were drawn by the seat beside their list.
use Rattle.std.proofs.Common.{◌≡◌, ℕ, ◌+◌, ◌-◌, ◌≤◌, List, ◌++◌, length, sum, sym, ap, ◌∙◌, subst, arith, length-append}
use Rattle.std.specs.List.{range_with_len}
use Rattle.call_places.specs.declared.entries.Entry.{Entry}
use Rattle.call_places.specs.Entries.{stamps_of, StampsBelow}
use Rattle.call_places.proofs.Stamps.{stamps_of-append, StampsBelow-weaker, StampsBelow-append}
use Rattle.stamp_counter.specs.Seats.{SeatView}
use Rattle.stamp_counter.specs.Stamps.{IsStamped}

pub stamped_more : (quotas quotas' : List ℕ) (entries entries' : List Entry) (seat seat' : SeatView) (added : List Entry) (counter : List ℕ) (first count : ℕ)
    → IsStamped quotas entries seat → quotas' ≡ quotas → entries' ≡ entries ++ added
    → seat' ≡ record { counter = counter; low = first + count; drawn = seat.drawn ++ range_with_len first count; left = seat.left - count }
    → stamps_of added ≡ range_with_len first count → length added ≡ count → StampsBelow (first + count) added
    → seat.low ≤ first → length entries + count ≤ sum quotas
    → IsStamped quotas' entries' seat'
stamped_more quotas quotas' entries entries' seat seat' added counter first count s terms adds drew stamps many below least room =
    let longer = ap length adds ∙ length-append entries added in
    let left = ap (λ (v : SeatView). v.left) drew in
    let left' = s.left in
    let same = ap sum terms in
    let low : first + count ≡ seat'.low = ap (λ (v : SeatView). v.low) (sym drew) in record {
      drawn = ap (λ (v : SeatView). v.drawn) drew ∙ (λ k. s.drawn k ++ sym stamps k) ∙ sym (stamps_of-append entries added) ∙ ap stamps_of (sym adds);
      left = omega arith;
      below = subst (λ (n : ℕ). StampsBelow n entries') low
          (subst (StampsBelow (first + count)) (sym adds)
          (StampsBelow-append (first + count) entries added (StampsBelow-weaker seat.low (first + count) entries (omega arith) s.below) below));
    }

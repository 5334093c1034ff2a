-- The table and the contexts are closed.
use Rattle.std.proofs.Common.{◌≡◌, ℕ, zero, suc, List, [], ◌∷◌, ◌++◌, length, map, Option, inl, inr, sym, refl, ◌∙◌, subst, arith}
use Rattle.std.specs.Prelude.{flat_map, slice_get, slice_index_or, IsPermutation}
use Rattle.std.specs.List.{All, range_with_len}
use Rattle.std.proofs.lemmas.Option.{slice_get_cases, slice_get-get_or}
use Rattle.std.proofs.lemmas.List.Sorted.{IsPermutation-append_comm, IsPermutation-trans}
use Rattle.call_places.specs.declared.entries.Entry.{Entry}
use Rattle.call_places.specs.Entries.{stamps_of}
use Rattle.call_places.specs.Orders.{StampsRise}
use Rattle.call_places.specs.Notes as notes
use Rattle.turn_lock.specs.Passes.{PassView, IsShown, NoOthers}
use Rattle.stamp_counter.specs.Seats.{SeatView}
use Rattle.lane_workers.specs.Showing.{Closes}
use Rattle.batch_plans.specs.declared.replies.LaneAnswers.{LaneAnswers}
use Rattle.lane_workers.specs.LiveGathered.{AllLiveClosed}
use Rattle.lane_workers.specs.Served.{seen_of, seen_by}
use Rattle.lane_workers.proofs.Handing.{closes_over}
use Rattle.shared_runs.specs.Closing.{HasClosedAll}
use Rattle.shared_runs.specs.Collected.{passes_of, ArePut}
use Rattle.shared_runs.specs.declared.tables.Table.{Table}
use Rattle.shared_runs.specs.declared.tables.Left.{Left}
use Rattle.shared_runs.specs.declared.live_contexts.LiveContexts.{LiveContexts}
use Rattle.shared_runs.specs.declared.live_contexts.LiveLeft.{LiveLeft}
use Rattle.shared_runs.specs.LiveContexts.{AreLive}
use Rattle.shared_runs.specs.LiveCollected.{tables_of, CollectedLive}
use Rattle.shared_runs.proofs.LiveShared.{lanes_count}

table_at : (passes : List PassView) (lane : ℕ) → seen_by (slice_get passes lane)
    ≡ slice_index_or (map (λ (p : PassView). p.seen) passes) lane []
table_at [] lane = refl
table_at (p ∷ passes) zero = refl
table_at (p ∷ passes) (suc lane) = table_at passes lane

-- passes that are back, whatever the seat
pub still_put : (t : Table) (l : Left) (seat : SeatView) (passes : List (List (Option PassView)))
    → ArePut t l passes → ArePut t (record l { seat = seat }) passes
still_put t l seat passes put = record {
  absent = put.absent;
  count = put.count;
  none = put.none;
  each = put.each;
}

module _ (t : LiveContexts) (l : LiveLeft) (live : AreLive t) (answers : List LaneAnswers)
    (c : CollectedLive t l answers) (count : length answers ≡ length t.shared.plan.now.lanes) where
  abbrev n : ℕ
  n = length t.shared.plan.now.lanes

  abbrev back : List PassView
  back = l.passes.passes

  back_count : length back ≡ n
  back_count = c.names.count ∙ c.few ∙ count

  -- the notes have what each lane has seen of the table, and no others
  pub table_closes : (entries : List Entry) → All (IsShown entries) back → NoOthers entries back
      → StampsRise entries → Closes n (λ lane. slice_index_or (tables_of l) lane []) entries
  table_closes entries shown others rise =
      subst (λ (seen : ℕ → List Entry). Closes n seen entries) (λ i lane. table_at back lane i)
      (closes_over n 0 (λ lane. slice_get back lane ∷ []) entries back shown others rise
      (λ lane low. elim ((slice_get_cases back lane).1) [
        | inl e ↦ (e.0, e.2, c.names.each lane e.0 e.2, lane, e.2)
        | inr e ↦ absurd (omega (arith, e.0, back_count))
      ])
      (λ k d low.
      let number = c.names.each k _ (slice_get-get_or back k d low) in
      omega (arith, number, back_count)))

  pub passes_count : length c.passes ≡ length t.shared.lanes.now
  passes_count = c.few ∙ count ∙ sym (lanes_count t live)

  -- the contexts are closed over a seat that has drawn the stamps of the notes
  pub all_closed : (drawn : List ℕ) (books : List (List Entry)) (entries : List Entry)
      → HasClosedAll t.shared drawn c.passes books
      → Closes n (λ lane. slice_index_or (tables_of l) lane []) entries → notes.AreLive entries
      → drawn ≡ stamps_of entries
      → AllLiveClosed t.shared.plan.now (tables_of l) c.passes books entries
  all_closed drawn books entries closed table is_live drawn_is =
      let stamps = flat_map stamps_of books in
      record {
        count = closed.count;
        closes = λ context. subst (λ k. Closes k (λ lane. seen_of (passes_of c.passes lane) context)
            (slice_index_or books context [])) (lanes_count t live) (closed.closes context);
        table = table;
        live = is_live;
        stamps = closed.stamps;
        given = IsPermutation-trans (stamps ++ stamps_of entries) (stamps_of entries ++ stamps)
            (range_with_len 0 closed.stamps)
            (IsPermutation-append_comm stamps (stamps_of entries))
            (subst (λ ds. IsPermutation (ds ++ stamps) (range_with_len 0 closed.stamps)) drawn_is
            closed.given);
      }

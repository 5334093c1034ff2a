use Rattle.std.proofs.Common.{List, length, sum, sym, ap, ◌∙◌, subst, arith, rules}
use Rattle.call_places.specs.declared.entries.Entry.{Entry}
use Rattle.call_places.specs.Entries.{stamps_of, StampsBelow}
use Rattle.call_places.specs.Orders.{StampsRise}
use Rattle.call_places.specs.Notes.{live_at, AreLive}
use Rattle.call_places.specs.Quotas.{AreLeft}
use Rattle.call_places.proofs.Quotas.{all_left}
use Rattle.live_table.proofs.notes.Notes.new.Goals as goal

pub invariant_of-result : goal.invariant_of-result
invariant_of-result c =
    let quotas = c.in_ok-kept.kept.items in
    let none = sym c.in_ok-entries.ensures.items in
    let same = c.in_ok-kept.ensures.items in
    let total = ap sum same in
    let empty = ap (λ (l : List Entry). length l) none in record {
      left = quotas;
      places = subst (AreLeft quotas quotas) none (all_left quotas);
      room = search rules;
      stamped = record {
        drawn = c.requires.seat.0 ∙ ap stamps_of none;
        left = omega arith;
        below = subst (StampsBelow c.args.seat.low) none tt;
      };
      rise = subst StampsRise none tt;
      told = subst AreLive none (λ i e at. absurd (cc));
      live_is = λ name below. c.none_live.ensures name below ∙ ap (λ l. live_at l name) none;
    }

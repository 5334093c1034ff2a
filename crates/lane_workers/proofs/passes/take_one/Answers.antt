use Rattle.std.proofs.Common.{◌≡◌, Option, Some, sym, ◌∙◌, subst}
use Rattle.turn_lock.specs.Passes.{PassListView, fresh_from}
use Rattle.lane_workers.specs.Handing.{Takes}
use Rattle.lane_workers.proofs.Handing.{take_first}
use Rattle.lane_workers.proofs.Found.{one_of, none_some}
use Rattle.lane_workers.proofs.passes.take_one.Goals as goal

pub returns-in-Some : goal.returns-in-Some
returns-in-Some c =
    let e = c.take.ensures in
    subst (λ (o : Option PassListView). Takes o (Some c.take.new.self) c.take.result)
    (sym c.in-Some.is) (record {
      none = λ is. absurd (none_some c.in-Some.list (sym is));
      first = λ list lock lane left is fresh.
          let same = one_of c.in-Some.list list is in
          subst (λ (x : PassListView). (c.take.result ≡ Some
          (Rattle.turn_lock.specs.Passes.fresh_pass lock lane)) × (Some c.take.new.self ≡ Some
          (record { passes = fresh_from lock (Rattle.std.proofs.Common.◌+◌ lane 1) left; made = x.made })))
          same
          (take_first c.in-Some.list c.take.new.self c.take.result e.none e.taken e.lowest e.made lock
          lane left (Rattle.std.proofs.Common.ap (λ (x : PassListView). x.passes) same ∙ fresh));
    })

use Rattle.std.proofs.Common.{◌++◌, sym, subst}
use Rattle.lane_workers.specs.Groups.{Each, EachServed}
use Rattle.lane_workers.proofs.Joined.{Each-append, EachServed-append}
use Rattle.lane_workers.proofs.serving.+serving.Goals as goal

pub serve_by-serve_beside-requires-clause-group : goal.serve_by-serve_beside-requires-clause-group
serve_by-serve_beside-requires-clause-group g t c κs within =
    let may = g.S.ServesLanes.may c.args.service.now in
    let parts = c.split_at_mut-group.result in
    (Each-append may parts.0.now parts.1.now
    (subst (Each may) c.split_at_mut-group.ensures.value c.requires.may)).0

pub serve_by-serve_beside-requires-clause-others : goal.serve_by-serve_beside-requires-clause-others
serve_by-serve_beside-requires-clause-others g t c κs within =
    let may = g.S.ServesLanes.may c.args.service.now in
    let parts = c.split_at_mut-group.result in
    (Each-append may parts.0.now parts.1.now
    (subst (Each may) c.split_at_mut-group.ensures.value c.requires.may)).1

pub serve_by-returns : goal.serve_by-returns
serve_by-returns g t c =
    let served = g.S.ServesLanes.served c.args.service.now in
    let parts = c.split_at_mut-group.result in
    let new = c.serve_beside.new in
    subst (λ ws. EachServed served ws (new.group ++ new.others)) (sym c.split_at_mut-group.ensures.value)
    (EachServed-append served parts.0.now new.group parts.1.now new.others
    c.serve_beside.ensures.group c.serve_beside.ensures.others)

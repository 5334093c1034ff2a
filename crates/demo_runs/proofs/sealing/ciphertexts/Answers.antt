use Rattle.std.proofs.Common.{◌≡◌, ℕ, List, length, drop, Some, ap, subst, sym, ◌∙◌}
use Rattle.std.specs.List.{refill}
use Rattle.std.proofs.lemmas.List.{take_at}
use Rattle.demo_runs.specs.Batches.{IsSealed}
use Rattle.demo_runs.proofs.FirstBatch.{may_put, all_put}
use Rattle.demo_runs.proofs.sealing.ciphertexts.Goals as goal

refill_is : (n : ℕ) (old new : List (List ℕ)) → length new ≡ n → refill n old new ≡ new
refill_is n old new size = take_at new (drop (length new) old) n size

pub put_lanes-requires : goal.put_lanes-requires
put_lanes-requires c =
    may_put c.requires.0 c.requires.1 c.args.served c.args.room c.as_mut_slice.result.now c.requires.2 c.as_mut_slice.ensures.items

pub returns-clause-count : goal.returns-clause-count
returns-clause-count c =
    let size : length c.put_lanes.new.cts ≡ length c.args.room =
    c.put_lanes.ensures.len ∙ ap (λ (xs : List (List ℕ)). length xs) c.as_mut_slice.ensures.items in
    ap (λ (xs : List (List ℕ)). length xs) (refill_is (length c.args.room) c.args.room c.put_lanes.new.cts size) ∙ size

pub returns-clause-sealed : goal.returns-clause-sealed
returns-clause-sealed c = λ seed messages t.
    let size : length c.put_lanes.new.cts ≡ length c.args.room =
    c.put_lanes.ensures.len ∙ ap (λ (xs : List (List ℕ)). length xs) c.as_mut_slice.ensures.items in
    let found = all_put seed messages c.args.served c.args.room c.as_mut_slice.result.now c.put_lanes.new.cts t
    c.as_mut_slice.ensures.items c.put_lanes.ensures.put in
    subst (λ (xs : List (List ℕ)). IsSealed seed messages (Some xs))
    (sym (refill_is (length c.args.room) c.args.room c.put_lanes.new.cts size)) found

use Rattle.std.proofs.Common.{◌≤◌, length, List, refl, sym, ap, ◌∙◌, subst, arith}
use Rattle.std.specs.List.{All}
use Rattle.call_places.specs.declared.spans.Item.{Item}
use Rattle.call_places.specs.Spans.{ItemIsInPool}
use Rattle.call_places.specs.Messages.{sealed_messages}
use Rattle.hpke_context.specs.Contexts.{key_in}
use Rattle.speculative_open.specs.Tables.{Fits}
use Rattle.batch_plans.specs.Limits.{items_of}
use Rattle.context_books.specs.Standing.{standing_at}
use Rattle.context_books.specs.LaneCalls.{opening_items, lane_calls}
use Rattle.context_core.specs.declared.lanes.Stage.TheVariants.{Tested}
use Rattle.context_books.proofs.Within.{line_within, opening_spans, opening_count, of_call}
use Rattle.context_core.proofs.Served.{tested_follows, guessed_opens}
use Rattle.context_core.proofs.lanes.Lane.test.Goals as goal

pub items_of_opening-items-requires : goal.items_of_opening-items-requires
items_of_opening-items-requires g c =
    let m = c.requires.may.2 in
    line_within c.args.plan.now c.requires.may.0 c.args.self.now.call c.args.call.now m.within m.there
    m.call_is

pub fill-requires-clause-room : goal.fill-requires-clause-room
fill-requires-clause-room g c =
    let m = c.requires.may.2 in
    let plan = c.args.plan.now in
    let l = c.requires.may.0 in
    let lane = c.args.self.now in
    let call = c.args.call.now in
    let fits = line_within plan l lane.call call m.within m.there m.call_is in
    let opens = guessed_opens plan c.args.contexts.now m.within m.standing l lane c.requires.may.1
    call m.call_is m.there m.core m.follows c.args.guess c.requires.stage in
    let count = opening_count plan call opens.opening fits in
    let most = of_call (λ x. items_of x ≤ lane.table.room) (lane_calls plan l) lane.call call
    m.follows.lane_follows.tools.rows m.call_is in
    omega (arith, ap length c.items_of_opening-items.ensures, count, most)

pub fill-requires-clause-spans : goal.fill-requires-clause-spans
fill-requires-clause-spans g c =
    let m = c.requires.may.2 in
    let plan = c.args.plan.now in
    let fits = line_within plan c.requires.may.0 c.args.self.now.call c.args.call.now m.within m.there
    m.call_is in
    subst (λ (xs : List Item). All (ItemIsInPool (length c.as_slice-pool.result.now)) xs)
    (sym c.items_of_opening-items.ensures)
    (subst (λ n. All (ItemIsInPool n) (opening_items plan c.args.call.now))
    (sym (ap length c.as_slice-pool.ensures.items))
    (opening_spans plan c.args.call.now m.within fits))

pub returns : goal.returns
returns g c = λ l books w at there t.
    let m = c.requires.may.2 in
    let plan = c.args.plan.now in
    let contexts = c.args.contexts.now in
    let lane = c.args.self.now in
    let call = c.args.call.now in
    let view = c.in-Some.context.now in
    let opens = guessed_opens plan contexts m.within m.standing l lane books call at there w t
    c.args.guess c.requires.stage in
    let table = c.fill.new.table in
    let key = c.in-Some-Some.key.now in
    let nonce = c.in-Some-Some.base_nonce.now in
    let pool = c.as_slice-pool.result.now in
    let items = c.items_of_opening-items.result.now in
    let fits_items = subst (λ (xs : List Item). Fits table key nonce (sealed_messages pool xs))
    c.items_of_opening-items.ensures c.fill.ensures.fits in
    let fits_pool = subst (λ bytes. Fits table key nonce (sealed_messages bytes
    (opening_items plan call))) c.as_slice-pool.ensures.items fits_items in
    let fits_key = subst (λ bytes. Fits table bytes nonce (sealed_messages plan.pool
    (opening_items plan call))) c.in-Some-Some.ensures.key fits_pool in
    let fits = subst (λ bytes. Fits table (key_in view.secrets.cipher) bytes
    (sealed_messages plan.pool (opening_items plan call))) c.in-Some-Some.ensures'.nonce fits_key in
    tested_follows plan contexts m.within m.standing l lane books call at there w t opens.opening
    opens.free view (ap (λ n. standing_at contexts n) (sym c.context_of.ensures) ∙ c.in-Some.ensures)
    (record lane { stage = Tested; table = table }) c.args.guess c.requires.stage
    (record {
      same = refl;
      stage = refl;
      progress = refl;
      notes = refl;
      rows = c.fill.ensures.room;
      steps = refl;
      settled = refl;
    })
    c.fill.ensures.guess
    (record { limit = c.fill.ensures.limit ∙ c.limit-limit.ensures.limit; fits = fits })

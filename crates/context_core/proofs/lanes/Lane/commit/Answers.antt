use Rattle.std.proofs.Common.{◌≡◌, ◌≤◌, ◌+◌, ◌-◌, length, take, drop, List, refl, sym, ap, ◌∙◌, subst, arith}
use Rattle.std.specs.List.{All}
use Rattle.std.proofs.lemmas.List.{take_rest, length-drop}
use Rattle.call_places.specs.declared.spans.Item.{Item}
use Rattle.call_places.specs.Spans.{ItemIsInPool}
use Rattle.batch_plans.specs.Calls.{context_of}
use Rattle.context_books.specs.Standing.{standing_at}
use Rattle.context_core.specs.Books.{book_at, MayAdd, Settles}
use Rattle.context_core.specs.declared.lanes.Stage.TheVariants.{Settled}
use Rattle.context_books.specs.LaneCalls.{opening_items}
use Rattle.context_books.proofs.Within.{call_low, line_within, opening_spans, opening_count, opening_few}
use Rattle.context_core.proofs.Notes.{written_front, written_size, written_back}
use Rattle.context_core.proofs.Served.{may_settle, settled_follows, tested_opens, steps_left}
use Rattle.context_core.proofs.lanes.Lane.commit.Goals as goal

pub items_of_opening-items-requires : goal.items_of_opening-items-requires
items_of_opening-items-requires c =
    let m = c.requires.may in
    line_within c.args.plan.now c.args.lane c.args.self.now.call c.args.call.now m.within m.there
    m.call_is

pub overflow_cast-call : goal.overflow_cast-call
overflow_cast-call c =
    let m = c.requires.may in
    let low = call_low c.args.plan.now c.args.lane c.args.self.now.call c.args.call.now m.within
    m.there m.call_is in
    omega (arith, low)

pub settle-first-requires-clause-spans : goal.settle-first-requires-clause-spans
settle-first-requires-clause-spans c =
    let m = c.requires.may in
    let plan = c.args.plan.now in
    let fits = line_within plan c.args.lane c.args.self.now.call c.args.call.now m.within m.there
    m.call_is in
    subst (λ (xs : List Item). All (ItemIsInPool (length c.as_slice-pool.result.now)) xs)
    (sym c.items_of_opening-items.ensures)
    (subst (λ n. All (ItemIsInPool n) (opening_items plan c.args.call.now))
    (sym (ap length c.as_slice-pool.ensures.items))
    (opening_spans plan c.args.call.now m.within fits))

pub settle-first-requires-clause-steps : goal.settle-first-requires-clause-steps
settle-first-requires-clause-steps c =
    let m = c.requires.may in
    let plan = c.args.plan.now in
    let lane = c.args.self.now in
    let call = c.args.call.now in
    let old = c.deref_mut.result.now in
    let opens = tested_opens plan c.args.contexts.now m.within m.standing c.args.lane lane
    c.args.books.now call m.call_is m.there m.core m.follows c.requires.stage in
    let left = steps_left plan c.args.contexts.now m.within m.standing c.args.lane lane
    c.args.books.now call m.call_is m.there m.core m.follows opens.opening c.requires.stage in
    omega (
      arith,
      ap length c.items_of_opening-items.ensures,
      left,
      ap length c.deref_mut.ensures.value,
      ap length (take_rest old lane.settled),
      length-drop lane.settled old,
    )

pub settle-first-requires-clause-few : goal.settle-first-requires-clause-few
settle-first-requires-clause-few c =
    let m = c.requires.may in
    let plan = c.args.plan.now in
    let call = c.args.call.now in
    let fits = line_within plan c.args.lane c.args.self.now.call call m.within m.there m.call_is in
    let opens = tested_opens plan c.args.contexts.now m.within m.standing c.args.lane c.args.self.now
    c.args.books.now call m.call_is m.there m.core m.follows c.requires.stage in
    omega (
      arith,
      ap length c.items_of_opening-items.ensures,
      opening_count plan call opens.opening fits,
      opening_few plan call fits,
    )

pub settle-first-requires-clause-room : goal.settle-first-requires-clause-room
settle-first-requires-clause-room c =
    let m = c.requires.may in
    let plan = c.args.plan.now in
    let contexts = c.args.contexts.now in
    let lane = c.args.self.now in
    let call = c.args.call.now in
    let opens = tested_opens plan contexts m.within m.standing c.args.lane lane
    c.args.books.now call m.call_is m.there m.core m.follows c.requires.stage in
    let stands = ap (λ n. standing_at contexts n) (sym c.context_of-number.ensures)
    ∙ c.in-Some.ensures in
    subst (λ n. MayAdd c.args.books.now n c.args.lane (length c.items_of_opening-items.result.now))
    (sym c.context_of-number.ensures)
    (subst (λ (xs : List Item). MayAdd c.args.books.now (context_of call) c.args.lane (length xs))
    (sym c.items_of_opening-items.ensures)
    (may_settle plan contexts m.within m.standing c.args.lane lane c.args.books.now call m.call_is
    m.there m.core m.follows opens.opening opens.free c.in-Some.context.now stands c.requires.stage
    m.few))

pub returns : goal.returns
returns c = λ w at there t.
    let m = c.requires.may in
    let plan = c.args.plan.now in
    let contexts = c.args.contexts.now in
    let lane = c.args.self.now in
    let books = c.args.books.now in
    let call = c.args.call.now in
    let view = c.in-Some.context.now in
    let opens = tested_opens plan contexts m.within m.standing c.args.lane lane books call at there w
    t c.requires.stage in
    let stands = ap (λ n. standing_at contexts n) (sym c.context_of-number.ensures)
    ∙ c.in-Some.ensures in
    let first = c.settle-first.result.0 in
    let misses = c.settle-first.result.1 in
    let old = c.deref_mut.result.now in
    let old_is : old ≡ lane.steps.items = c.deref_mut.ensures.value in
    let new = c.settle-first.new.steps in
    let size : length old ≡ lane.steps.len = c.deref_mut.ensures.len in
    let left = steps_left plan contexts m.within m.standing c.args.lane lane books call at there w t
    opens.opening c.requires.stage in
    let low : lane.settled ≤ lane.steps.len = (let e = ap length old_is in omega arith) in
    let same : length new ≡ length (take (length old - lane.settled) (drop lane.settled old)) =
    c.settle-first.auto.steps in
    let items_are = c.items_of_opening-items.ensures in
    let number_is = c.context_of-number.ensures in
    let pool_is = c.as_slice-pool.ensures.items in
    let items = c.items_of_opening-items.result.now in
    let guess = lane.table.guess in
    settled_follows plan contexts m.within m.standing c.args.lane lane books call at there w t
    opens.opening opens.free view stands
    _ c.settle-first.new.books first misses c.requires.stage
    (record {
      same = refl;
      stage = ap (λ g. Settled g first misses lane.settled) c.guess.ensures;
      progress = refl;
      notes = refl;
      table = refl;
      kept = written_front old new _ _ lane.settled lane.steps.len size low same
          ∙ ap (take lane.settled) old_is;
      size = written_size old new _ _ lane.settled lane.steps.len size low same
          ∙ ap length old_is;
      settled = ap (λ (xs : List Item). lane.settled + length xs) items_are;
    })
    (take (length (opening_items plan call)) new)
    (ap (take (length (opening_items plan call)))
    (written_back old new _ _ lane.settled lane.steps.len size low same))
    (λ book is.
    let s = c.settle-first.ensures book (ap (book_at books) number_is ∙ is) in
    let s_number = subst (λ n. Settles books c.settle-first.new.books n book view
    c.as_slice-pool.result.now items c.args.lane lane.call guess first misses
    (take (length items) new)) number_is s in
    let s_pool = subst (λ pool. Settles books c.settle-first.new.books (context_of call) book view pool items
    c.args.lane lane.call guess first misses (take (length items) new)) pool_is s_number in
    subst (λ (xs : List Item). Settles books c.settle-first.new.books (context_of call) book view plan.pool xs
    c.args.lane lane.call guess first misses (take (length xs) new)) items_are s_pool)

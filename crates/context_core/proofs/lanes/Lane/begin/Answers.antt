use Rattle.std.proofs.Common.{◌≡◌, refl, sym, ap, ◌∙◌, subst, arith, inl, inr}
use Rattle.std.proofs.lemmas.Option.{slice_get_within}
use Rattle.batch_plans.specs.Calls.{context_of}
use Rattle.context_books.specs.Standing.{standing_at}
use Rattle.context_core.specs.Books.{book_at}
use Rattle.context_books.specs.LaneCalls.{lane_calls, IsOpening}
use Rattle.context_core.specs.declared.lanes.Stage.TheVariants.{Drawn, Guessed}
use Rattle.context_books.proofs.Within.{call_low}
use Rattle.context_core.proofs.Allowed.{stands_of}
use Rattle.context_core.proofs.Served.{some_of, none_of, done_fresh, refused_nothing, export_nothing, may_draw, drawn_follows, guessed_follows}
use Rattle.context_core.proofs.lanes.Lane.begin.Goals as goal

pub finish-requires : goal.finish-requires
finish-requires c =
    let m = c.requires.may in
    let low = slice_get_within (lane_calls c.args.plan.now c.args.lane) c.args.self.now.call
    c.args.call.now m.call_is in
    omega (arith, low, m.follows.lane_follows.notes)

pub returns-then-is_some : goal.returns-then-is_some
returns-then-is_some c = λ w at there t.
    let m = c.requires.may in
    let why = some_of (c.refusal_of.result) (sym c.is_some.ensures ∙ c.if-is_some.true) in
    done_fresh c.args.plan.now c.args.contexts.now m.within m.standing c.args.lane c.args.self.now
    c.args.books.now c.args.call.now at there w t c.finish.new.self c.requires.stage
    (refused_nothing c.args.plan.now c.args.contexts.now m.within m.standing c.args.lane
    c.args.self.now c.args.books.now c.args.call.now at there w t why.0
    (sym c.refusal_of.ensures ∙ why.1)) c.finish.ensures

pub overflow_cast-place : goal.overflow_cast-place
overflow_cast-place c =
    let m = c.requires.may in
    let low = call_low c.args.plan.now c.args.lane c.args.self.now.call c.args.call.now m.within
    m.there m.call_is in
    omega (arith, low)

pub draw-requires : goal.draw-requires
draw-requires c =
    let m = c.requires.may in
    let free = sym c.refusal_of.ensures
    ∙ none_of c.refusal_of.result (sym c.is_some.ensures ∙ c.if-is_some.false) in
    let s = stands_of c.args.contexts.now c.args.call.now free in
    may_draw c.args.plan.now c.args.contexts.now m.within m.standing c.args.lane c.args.self.now
    c.args.books.now c.args.call.now m.call_is m.there m.core m.follows c.in-Seal.context
    c.in-Seal.item c.in-Seal.is free s.0
    (ap (λ call. standing_at c.args.contexts.now
    (context_of call)) (sym c.in-Seal.is) ∙ s.1) c.requires.stage m.few

pub returns-in-Seal : goal.returns-in-Seal
returns-in-Seal c = λ w at there t.
    let m = c.requires.may in
    let lane = c.args.self.now in
    let free = sym c.refusal_of.ensures
    ∙ none_of c.refusal_of.result (sym c.is_some.ensures ∙ c.if-is_some.false) in
    let s = stands_of c.args.contexts.now c.args.call.now free in
    drawn_follows c.args.plan.now c.args.contexts.now m.within m.standing c.args.lane lane
    c.args.books.now c.args.call.now at there w t c.in-Seal.context c.in-Seal.item c.in-Seal.is
    free s.0
    (ap (λ call. standing_at c.args.contexts.now
    (context_of call)) (sym c.in-Seal.is) ∙ s.1)
    (record lane { stage = Drawn c.draw.result }) c.draw.new.books c.draw.result c.requires.stage
    (record {
      same = refl;
      stage = refl;
      progress = refl;
      notes = refl;
      rows = refl;
      steps = refl;
      settled = refl;
    })
    c.draw.ensures

pub returns-in-Unseal : goal.returns-in-Unseal
returns-in-Unseal c = λ w at there t.
    let m = c.requires.may in
    let lane = c.args.self.now in
    let call = c.args.call.now in
    let free = sym c.refusal_of.ensures
    ∙ none_of c.refusal_of.result (sym c.is_some.ensures ∙ c.if-is_some.false) in
    let opening : IsOpening call = elim c.in-Unseal.is [
      | inl e ↦ subst IsOpening (sym e.1) tt
      | inr e ↦ subst IsOpening (sym e.2) tt
    ] in
    let number : context_of call ≡ c.in-Unseal.context =
    elim c.in-Unseal.is [ inl e ↦ ap context_of e.1 | inr e ↦ ap context_of e.2 ] in
    let s = stands_of c.args.contexts.now call free in
    guessed_follows c.args.plan.now c.args.contexts.now m.within m.standing c.args.lane lane
    c.args.books.now call at there w t opening free s.0 s.1
    (record lane { stage = Guessed c.due.result }) c.due.result c.requires.stage
    (record {
      same = refl;
      stage = refl;
      progress = refl;
      notes = refl;
      rows = refl;
      steps = refl;
      settled = refl;
    })
    (λ book is. c.due.ensures book (ap (book_at c.args.books.now) (sym number) ∙ is))

pub finish-requires-in-Export : goal.finish-requires-in-Export
finish-requires-in-Export c =
    let m = c.requires.may in
    let low = slice_get_within (lane_calls c.args.plan.now c.args.lane) c.args.self.now.call
    c.args.call.now m.call_is in
    omega (arith, low, m.follows.lane_follows.notes)

pub returns-in-Export : goal.returns-in-Export
returns-in-Export c = λ w at there t.
    let m = c.requires.may in
    done_fresh c.args.plan.now c.args.contexts.now m.within m.standing c.args.lane c.args.self.now
    c.args.books.now c.args.call.now at there w t c.finish-in-Export.new.self c.requires.stage
    (export_nothing c.args.plan.now c.args.contexts.now m.within m.standing c.args.lane
    c.args.self.now c.args.books.now c.args.call.now at there w t _ _ _ c.in-Export.is
    (sym c.refusal_of.ensures
    ∙ none_of c.refusal_of.result (sym c.is_some.ensures ∙ c.if-is_some.false))) c.finish-in-Export.ensures

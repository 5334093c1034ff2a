use Rattle.std.proofs.Common.{arith, rules}
use Rattle.std.proofs.lemmas.Result.{IfOk-weaker}
use Rattle.sntrup_core.specs.Keys.{IsExhausted, FindsNoInverse}
use Rattle.sntrup_core.proofs.Draws.{drawn_from, finds_no_end, takes_two_more, key_with, never_exhausted, no_inverse_exactly, room_for_f}
use Rattle.sntrup_core.proofs.keys.keygen.Goals as goal

pub returns-in_default-clause-no_inverse : goal.returns-in_default-clause-no_inverse
unfolding FindsNoInverse
returns-in_default-clause-no_inverse g c =
    let set = g.S.Params.set in
    let word = g.R.Words.word c.args.words.now in
    let place = g.R.Words.place c.args.words.now in
    let none : IsExhausted set word place = search rules in
    λ _. (λ e. absurd (cc), λ n. absurd (finds_no_end set word place n.0 n.1 none))

pub returns-in_default-clause-taken : goal.returns-in_default-clause-taken
returns-in_default-clause-taken g c =
    let set = g.S.Params.set in
    let word = g.R.Words.word c.args.words.now in
    let place = g.R.Words.place c.args.words.now in
    let none : IsExhausted set word place = search rules in
    λ _ j f. absurd (finds_no_end set word place j f none)

pub returns-clause-key : goal.returns-clause-key
returns-clause-key g c =
    let laws = g.S.Params in
    let set = g.S.Params.set in
    let word = g.R.Words.word c.args.words.now in
    let place = g.R.Words.place c.args.words.now in
    let found = rw c.in-Some.is at c.in_ok-drawn.ensures.some in
    let drawn = drawn_from set word (g.R.Words.word c.find_invertible.new.words) place (g.R.Words.place c.find_invertible.new.words) c.in-Some.found.g c.in-Some.found.ginv c.in_ok-f.f found c.in_ok-drawn.ensures.stays c.in_ok-f.ensures.sample in
    IfOk-weaker c.key_of.result _ _
    (λ k are. key_with set word place found.0 c.in-Some.found.g c.in-Some.found.ginv c.in_ok-f.f are.2 k.0.h k.1.f k.1.ginv laws.degree_least laws.modulus_least laws.modulus_odd drawn are.0 are.1 are.3 are.4 are.5)
    c.key_of.ensures.key

pub returns-clause-exhausted : goal.returns-clause-exhausted
returns-clause-exhausted g c =
    let found = rw c.in-Some.is at c.in_ok-drawn.ensures.some in
    λ _. (λ e. absurd (never_exhausted c.key_of.result _ c.key_of.ensures.fault e), λ none. absurd (finds_no_end g.S.Params.set (g.R.Words.word c.args.words.now) (g.R.Words.place c.args.words.now) found.0 found.1 none))

pub returns-clause-no_inverse : goal.returns-clause-no_inverse
returns-clause-no_inverse g c =
    let set = g.S.Params.set in
    let word = g.R.Words.word c.args.words.now in
    let place = g.R.Words.place c.args.words.now in
    let found = rw c.in-Some.is at c.in_ok-drawn.ensures.some in
    let drawn = drawn_from set word (g.R.Words.word c.find_invertible.new.words) place (g.R.Words.place c.find_invertible.new.words) c.in-Some.found.g c.in-Some.found.ginv c.in_ok-f.f found c.in_ok-drawn.ensures.stays c.in_ok-f.ensures.sample in
    no_inverse_exactly c.key_of.result set word place found.0 c.in-Some.found.g c.in-Some.found.ginv c.in_ok-f.f drawn
    (IfOk-weaker c.key_of.result _ _ (λ k are. (are.2, are.3, are.4)) c.key_of.ensures.key)
    c.key_of.ensures.fault

pub returns-clause-taken : goal.returns-clause-taken
returns-clause-taken g c =
    let found = rw c.in-Some.is at c.in_ok-drawn.ensures.some in
    λ _ j f. takes_two_more g.S.Params.set (g.R.Words.word c.args.words.now) (g.R.Words.place c.args.words.now) (g.R.Words.place c.find_invertible.new.words) (g.R.Words.place c.short_random.new.words) j found.0 found.1 found.3 c.in_ok-f.ensures.taken f

pub returns-clause-exhausted_taken : goal.returns-clause-exhausted_taken
returns-clause-exhausted_taken g c =
    λ e. absurd (never_exhausted c.key_of.result _ c.key_of.ensures.fault e)

pub short_random-requires : goal.short_random-requires
short_random-requires g c =
    let found = rw c.in-Some.is at c.in_ok-drawn.ensures.some in
    omega (
      arith,
      room_for_f g.S.Params.set (g.R.Words.word c.args.words.now) (g.R.Words.place c.args.words.now) found.0 found.1 c.requires,
      found.3,
    )

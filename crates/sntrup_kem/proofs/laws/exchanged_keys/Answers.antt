use Rattle.std.proofs.Common.{ℕ, ap, ◌∙◌, arith}
use Rattle.std.proofs.lemmas.Result.{IfOk-weaker}
use Rattle.sntrup_kem.proofs.Rounds.{IsSet}
use Rattle.sntrup_kem.specs.Kem.{drawn_r, session_of}
use Rattle.sntrup_kem.proofs.Generating.{fault_passed}
use Rattle.sntrup_kem.proofs.Agreement.{exchange_agrees}
use Rattle.sntrup_kem.proofs.laws.exchanged_keys.Goals as goal

pub returns-clause-agreement : goal.returns-clause-agreement
returns-clause-agreement g c =
    let laws = g.S.Params in
    let s : IsSet laws.set = record {
      degree = laws.degree_least;
      least = laws.modulus_least;
      most = omega (arith, laws.modulus_most);
      odd = laws.modulus_odd;
      thirds = laws.half_thirds;
      weight = laws.weight_most;
      bound = laws.weight_bound;
    } in
    let k = c.in_ok-public.ensures.keys in
    IfOk-weaker c.session_keys.result _ _
    (λ keys are. exchange_agrees laws.set (g.R.Words.word c.args.words.now) (g.R.Words.word c.generate.new.words) (g.R.Words.place c.args.words.now) (g.R.Words.place c.generate.new.words) k.0 c.in_ok-public.public c.in_ok-public.secret _ _ s k.2 are.0 are.1)
    c.session_keys.ensures.keys

pub returns-clause-session : goal.returns-clause-session
returns-clause-session g c =
    let set = g.S.Params.set in
    let pk = c.in_ok-public.public in
    let k = c.in_ok-public.ensures.keys in
    let place = g.R.Words.place c.generate.new.words in
    IfOk-weaker c.session_keys.result _ _
    (λ keys are. (
      k.0,
      pk,
      c.in_ok-public.secret,
      k.1,
      k.2,
      are.0
          ∙ ap (λ (word : ℕ → ℕ). session_of set pk (drawn_r set word place)) c.in_ok-public.ensures.stays
          ∙ ap (λ (n : ℕ). session_of set pk (drawn_r set (g.R.Words.word c.args.words.now) n)) k.3,
    ))
    c.session_keys.ensures.keys

pub returns-clause-exhausted : goal.returns-clause-exhausted
returns-clause-exhausted g c = fault_passed c.session_keys.result c.session_keys.ensures.fault c.in_ok-public.ensures.exhausted

pub returns-clause-no_inverse : goal.returns-clause-no_inverse
returns-clause-no_inverse g c = fault_passed c.session_keys.result c.session_keys.ensures.fault c.in_ok-public.ensures.no_inverse

-- What any two replies to a plan have alike.
use Rattle.std.proofs.Common.{sym, subst}
use Rattle.context_books.specs.Live.{IsAllowedLive, live_run_along, live_call_lines}
use Rattle.context_books.specs.Runs.{IsAllowed, run_along, call_lines, run_lines}
use Rattle.context_books.specs.Sharing.{SealsAlike, DifferInGuesses}
use Rattle.context_books.proofs.SealedAlike.{seals_alike}
use Rattle.context_books.proofs.LiveSeals.{live_seals_alike}
use Rattle.context_books.proofs.OneReply.{differ_in_guesses}
use Rattle.context_table.specs.Laws.{SealsStay, LiveSealsStay, RepliesStay}
use Rattle.context_table.proofs.OneSetUp.{one_set_up_lem}

pub seals_stay_lem : SealsStay
seals_stay_lem plan text other a b plain alone =
    let same = one_set_up_lem plan a.keys b.keys a.contexts b.contexts a.standing b.standing a.set_up
    b.set_up in
    let also = subst (λ standing. IsAllowed (run_along plan standing b.journals b.guesses))
    (sym same.2) b.allowed in
    subst (λ standing. SealsAlike plan
    (call_lines (run_along plan a.standing a.journals a.guesses))
    (call_lines (run_along plan standing b.journals b.guesses))) same.2
    (seals_alike plan a.standing plain a.set_up.standing_count a.journals b.journals a.guesses
    b.guesses a.allowed also alone)

pub live_seals_stay_lem : LiveSealsStay
live_seals_stay_lem plan text other a b within alone =
    let same = one_set_up_lem plan a.keys b.keys a.contexts b.contexts a.standing b.standing a.set_up
    b.set_up in
    let also = subst (λ standing. IsAllowedLive
    (live_run_along plan a.contexts standing b.journals b.guesses b.notes)) (sym same.2)
    (subst (λ contexts. IsAllowedLive
    (live_run_along plan contexts b.standing b.journals b.guesses b.notes)) (sym same.1) b.allowed) in
    let lines = live_call_lines (live_run_along plan a.contexts a.standing a.journals a.guesses a.notes) in
    subst (λ contexts. SealsAlike plan lines
    (live_call_lines (live_run_along plan contexts b.standing b.journals b.guesses b.notes))) same.1
    (subst (λ standing. SealsAlike plan lines
    (live_call_lines (live_run_along plan a.contexts standing b.journals b.guesses b.notes))) same.2
    (live_seals_alike plan a.contexts a.standing within a.set_up.standing_count alone a.journals
    b.journals a.guesses b.guesses a.notes b.notes a.allowed also))

pub replies_stay_lem : RepliesStay
replies_stay_lem plan text other a b version plain alone =
    let same = one_set_up_lem plan a.keys b.keys a.contexts b.contexts a.standing b.standing a.set_up
    b.set_up in
    let also = subst (λ standing. IsAllowed (run_along plan standing b.journals b.guesses))
    (sym same.2) b.allowed in
    let alike = differ_in_guesses plan a.standing plain a.set_up.standing_count a.journals b.journals
    a.guesses b.guesses a.allowed also alone a.keys a.contexts version in
    let lines = run_lines a.keys a.contexts (run_along plan a.standing a.journals a.guesses) in
    subst (λ keys. DifferInGuesses lines
    (run_lines keys b.contexts (run_along plan b.standing b.journals b.guesses))) same.0
    (subst (λ contexts. DifferInGuesses lines
    (run_lines a.keys contexts (run_along plan b.standing b.journals b.guesses))) same.1
    (subst (λ standing. DifferInGuesses lines
    (run_lines a.keys a.contexts (run_along plan standing b.journals b.guesses))) same.2 alike))

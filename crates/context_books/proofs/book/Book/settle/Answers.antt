use Rattle.std.proofs.Common.{◌≡◌, ℕ, ◌+◌, ◌<◌, ◌≤◌, ◌↔◌, length, Bool, true, false, cond, not, IfSome, IsTrue, [], ◌∷◌, sym, refl, ap, ◌∙◌, subst, arith}
use Rattle.std.specs.Prelude.{slice_index_or, is_some}
use Rattle.call_places.specs.declared.entries.Entry.{Entry}
use Rattle.call_places.specs.declared.spans.Item as spans
use Rattle.call_places.specs.Entries.{own, seq_of, StampsBelow}
use Rattle.hpke_context.specs.Answers.{Item, Cipher, Unseal, answer, next}
use Rattle.hpke_context.specs.Contexts.{cipher_of}
use Rattle.hpke_aead.proofs.Tags.{tag_holds-told}
use Rattle.context_books.specs.Batches.{place}
use Rattle.context_books.specs.Entries.{entry, step_for}
use Rattle.context_books.specs.Guesses.{is_in_window}
use Rattle.context_books.proofs.EntryNumbers.{seq_of-push, number_next}
use Rattle.call_places.specs.Messages.{SealedMessage, sealed_message}
use Rattle.context_books.specs.Books.{opened_at}
use Rattle.context_books.specs.Openings.{unseals, opening_steps, opening_misses, OpensIn}
use Rattle.call_places.proofs.Stamps.{StampsBelow-weaker, StampsBelow-append}
use Rattle.call_places.proofs.Quotas.{own-same}
use Rattle.context_books.proofs.OneMore.{opened_for, told_in_window, item_at, asked_at, steps_more, missed_more, entries_more}
use Rattle.context_books.proofs.book.Book.settle.Goals as goal
use Rattle.context_books.proofs.book.Book.settle.Goals.{then-is_none, else-is_none}

abbrev no_item : spans.Item
no_item = record { aad = record { start = 0; len = 0 }; text = record { start = 0; len = 0 } }

at_most_one : (b : Bool) → cond b 0 1 ≤ 1
at_most_one true = omega arith
at_most_one false = omega arith

pub verdict-holds-requires-clause-known : goal.verdict-holds-requires-clause-known
verdict-holds-requires-clause-known c =
    let l = c.loop-i in
    let x : SealedMessage = sealed_message c.args.pool.now (slice_index_or c.args.items.now l.i no_item) in
    let told = c.look-known.ensures.tells _ _ _ x c.requires.table.fits (item_at c.args.pool.now c.args.items.now l.i no_item c.loop-i-test.true) in
    subst (λ (n : ℕ). IfSome c.look-known.result (λ v. IsTrue v ↔ OpensIn c.args.context.now n x)) (c.seq.ensures.seq ∙ sym c.seq-in-loop-i.ensures.seq) told

pub loop-i-preserved : goal.loop-i-preserved
loop-i-preserved c =
    let l = c.loop-i in
    let i = l.invariant in
    let o = c.open.ensures in
    let n = l.i in
    let seq : ℕ = seq_of l.self.entries in
    let context = c.args.context.now in
    let cipher : Cipher = cipher_of context in
    let pool = c.args.pool.now in
    let items = c.args.items.now in
    let x : SealedMessage = sealed_message pool (slice_index_or items n no_item) in
    let ask : Item = Unseal x.aad x.ct in
    let at = asked_at pool items n no_item c.loop-i-test.true in
    let size = l.auto.steps in
    let given = c.requires.steps in
    let more = c.loop-i-test.true in
    let within : n < length l.steps = omega arith in
    let guess : ℕ = c.args.table.now.guess in
    let same_limit : l.self.limit ≡ context.limit = i.terms.limit ∙ sym c.requires.cipher.1 in
    let holds = subst (λ (m : ℕ). cipher.holds m x.aad x.ct ≡ c.verdict-holds.result) c.seq-in-loop-i.ensures.seq (tag_holds-told _ _ _ _ _ c.verdict-holds.ensures.holds) in
    let step : c.open.result ≡ step_for ask (answer cipher seq ask) = o.step ∙ ap (λ m. opened_at m seq c.verdict-holds.result) same_limit ∙ opened_for cipher seq x.aad x.ct c.verdict-holds.result holds in
    let e : Entry = entry (place c.args.lane c.args.call n) (c.args.first_stamp + n) c.open.result in
    let next_is : seq_of c.open.new.self.entries ≡ next seq (answer cipher seq ask) = ap seq_of o.added ∙ seq_of-push l.self.entries e ∙ number_next cipher seq ask c.open.result step in
    let most = c.seq.ensures.most in
    let table_limit = c.requires.table.limit in
    let known = subst (λ (m : ℕ). is_some c.look-known.result ≡ is_in_window guess n m) c.seq.ensures.seq
    (told_in_window c.look-known.result guess c.args.table.now.limit n c.seq.result (omega arith) c.look-known.ensures.none) in
    let known_is = c.is_none.ensures in
    let unknown : c.if-is_none.missed ≡ l.missed + cond (is_some c.look-known.result) 0 1 = elim c.if-is_none.branch [
      | then-is_none w ↦ w.missed-is ∙ ap (λ b. l.missed + cond b 0 1) (sym (known_is ∙ ap not w.if-is_none.true))
      | else-is_none w ↦ w.missed-is ∙ (let z : l.missed ≡ l.missed + 0 = omega arith in z) ∙ ap (λ b. l.missed + cond b 0 1) (sym (known_is ∙ ap not w.if-is_none.false))
    ] in
    let one = at_most_one (is_some c.look-known.result) in
    let checked = c.verdict-holds.ensures.checks in
    let longer = ap (λ es. length (own c.args.lane es)) o.added ∙ own-same c.args.lane l.self.entries e refl in
    record {
      terms = record { limit = o.terms.limit ∙ i.terms.limit; quotas = o.terms.quotas ∙ i.terms.quotas };
      steps = steps_more cipher (unseals pool items) (opening_steps context (seq_of c.args.self.now.entries) pool items) l.steps seq (seq_of c.open.new.self.entries) n ask c.open.result at within step next_is i.steps;
      entries = o.added ∙ entries_more c.args.lane c.args.call n c.args.first_stamp c.args.self.now.entries l.self.entries l.steps c.open.result within i.entries;
      missed = missed_more cipher (unseals pool items) guess (opening_misses context (seq_of c.args.self.now.entries) pool items guess) l.missed c.if-is_none.missed seq (seq_of c.open.new.self.entries) n ask at next_is
          (unknown ∙ ap (λ b. l.missed + cond b 0 1) known) i.missed;
      few = (let a = i.few in omega arith);
      least = (let a = i.least in omega arith);
      most = (let a = i.most in omega arith);
      room = (let a = i.room in omega arith);
      below = subst (StampsBelow (c.args.first_stamp + (n + 1))) (sym o.added) (StampsBelow-append (c.args.first_stamp + (n + 1)) l.self.entries (e ∷ []) (StampsBelow-weaker (c.args.first_stamp + n) (c.args.first_stamp + (n + 1)) l.self.entries (omega arith) i.below) (omega arith, tt));
    }

use Rattle.std.proofs.Common.{◌≡◌, ◌+◌, ◌++◌, Some, length, take, drop, refl, sym, ap, ◌∙◌, subst, arith}
use Rattle.context_books.specs.Books.{BookView}
use Rattle.std.proofs.lemmas.List.{take-append-le, take_all}
use Rattle.hpke_context.specs.Contexts.{cipher_of}
use Rattle.context_books.specs.Entries.{entries_from}
use Rattle.context_books.proofs.EntryNumbers.{length-steps_from}
use Rattle.context_books.proofs.Items.{length-unseals}
use Rattle.context_books.specs.Openings.{opening_steps, opening_misses, unseals}
use Rattle.std.specs.Vec.{with_item}
use Rattle.context_core.specs.declared.books.Books.{Books}
use Rattle.context_core.specs.Books.{Settles}
use Rattle.context_books.proofs.Misses.{few_missed}
use Rattle.context_core.proofs.Adding.{book_read, may_add_read}
use Rattle.context_core.proofs.books.settle.Goals as goal

pub settle-missed-requires-clause-cipher : goal.settle-missed-requires-clause-cipher
settle-missed-requires-clause-cipher c =
    let may = c.requires.room in
    let here = book_read c.args.books.now.books.items c.args.opening.number may.book c.in-Some.book
    c.index_mut.result.now may.is c.index_mut.ensures.value c.in-Some.is in
    (c.requires.cipher, c.requires.limit may.book may.is ∙ ap (λ (b : BookView). b.limit) (sym here))

pub settle-missed-requires-clause-lane : goal.settle-missed-requires-clause-lane
settle-missed-requires-clause-lane c =
    (may_add_read c.args.books.now c.args.opening.number c.args.opening.lane (length c.args.opening.items.now)
    c.in-Some.book c.index_mut.result.now c.requires.room c.index_mut.ensures.value
    c.in-Some.is).lane_there

pub settle-missed-requires-clause-room : goal.settle-missed-requires-clause-room
settle-missed-requires-clause-room c =
    (may_add_read c.args.books.now c.args.opening.number c.args.opening.lane (length c.args.opening.items.now)
    c.in-Some.book c.index_mut.result.now c.requires.room c.index_mut.ensures.value
    c.in-Some.is).room

pub settle-missed-requires-clause-stamps : goal.settle-missed-requires-clause-stamps
settle-missed-requires-clause-stamps c =
    (may_add_read c.args.books.now c.args.opening.number c.args.opening.lane (length c.args.opening.items.now)
    c.in-Some.book c.index_mut.result.now c.requires.room c.index_mut.ensures.value
    c.in-Some.is).stamps

pub settle-missed-requires-clause-spans : goal.settle-missed-requires-clause-spans
settle-missed-requires-clause-spans c = c.requires.spans

pub returns : goal.returns
returns c = λ book is.
    let view = c.args.opening.context.now in
    let pool = c.args.opening.pool.now in
    let items = c.args.opening.items.now in
    let done = c.settle-missed.ensures in
    let new : Books = record {
      books = with_item c.args.books.now.books c.args.opening.number (Some c.settle-missed.new.self);
      places = c.args.books.now.places + length items;
      checks = c.settle-missed.new.checks;
    } in
    let seq = c.seq-first.ensures.seq in
    let most = few_missed view c.seq-first.result pool items c.args.table.now.guess in
    let steps = c.settle-missed.new.steps in
    let rest = drop (length items) c.args.steps.now in
    let count : length steps ≡ length items = ap length done.steps
    ∙ length-steps_from (cipher_of view) _ (unseals pool items) ∙ length-unseals pool items in
    let front : take (length items) (steps ++ rest) ≡ steps =
    take-append-le (length items) steps rest (omega arith)
    ∙ take_all (length items) steps (omega arith) in
    let missed_is = done.missed ∙ ap (λ n. opening_misses view n pool items c.args.table.now.guess)
    (sym seq) in
    let here = book_read c.args.books.now.books.items c.args.opening.number book c.in-Some.book
    c.index_mut.result.now is c.index_mut.ensures.value c.in-Some.is in
    subst (λ (b : BookView). Settles c.args.books.now new c.args.opening.number b view pool items
    c.args.opening.lane c.args.opening.call c.args.table.now.guess c.seq-first.result c.settle-missed.result
    (take (length items) (steps ++ rest))) here (record {
      after = c.settle-missed.new.self;
      adds = record {
        books = refl;
        terms = done.terms;
        places = refl;
        checks = omega (arith, done.checks, ap (λ n. n) missed_is, most);
      };
      entries = done.added ∙ ap (λ ss. c.in-Some.book.entries
          ++ entries_from c.args.opening.lane c.args.opening.call 0 c.args.books.now.places ss) (sym front);
      first_is = seq;
      steps_are = front ∙ done.steps ∙ ap (λ n. opening_steps view n pool items) (sym seq);
      missed_is = missed_is;
    })

use Rattle.std.proofs.Common.{◌≡◌, ◌<◌, ◌+◌, ℕ, [], Some, slice_get, slice_index_or}
use Rattle.call_places.specs.declared.spans.Item.{Item}
use Rattle.call_places.specs.Messages.{sealed_message}
use Rattle.speculative_open.specs.Tables.{IsRow}
use Rattle.speculative_open.proofs.rows.Opener.fill_piece.Given as goal

abbrev pub invariant-loop-j : goal.invariant-loop-j
invariant-loop-j l =
    (m : ℕ) (item : Item) → m < l.j → slice_get l.items (l.start + m) ≡ Some item
    → IsRow l.self.guess l.self.limit l.self.key.now l.self.base_nonce.now (l.start + m) (sealed_message l.self.pool.now item) (slice_index_or l.rows m [])

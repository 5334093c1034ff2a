-- The first five lines.
use Rattle.std.proofs.Common.{◌≡◌, ℕ, suc, zero, ◌/◌, ◌%◌, ◌^◌, ◌<◌, ◌==◌, true, false, List, [], ◌∷◌, ◌++◌, length, codes, replicate, Ok, Some, refl, sym, ap, ◌∙◌, append_assoc, append-nil, arith}
use Rattle.std.specs.Int.{bytes_high_first, byte_at}
use Rattle.hex.specs.Hex.{encode_lower, decode_pairs, IsBytes}
use Rattle.hex.proofs.OnLiterals.{hex_on_literals}
use Rattle.field_text.specs.Printing.{hex_text}
use Rattle.field_text.specs.Cuts.{lines_of, pieces_of}
use Rattle.field_text.specs.Fields.{next, pooled, bytes}
use Rattle.batch_plans.specs.declared.plan.Plan.{Plan}
use Rattle.batch_plans.specs.declared.plan.KeyLine.TheVariants.{Generate}
use Rattle.request_frames.specs.declared.key_words.KeyWord.TheVariants as keys
use Rattle.batch_plans.specs.declared.plan.KeySet.TheVariants.{Sntrup761}
use Rattle.request_frames.specs.KeyForms.{rand}
use Rattle.request_frames.specs.declared.words.LineWord.TheVariants.{Rand, Key, Context}
use Rattle.request_frames.specs.declared.words.ContextWord.TheVariants as contexts
use Rattle.request_frames.specs.Batch.{with_line, with_rand, with_key, with_context, empty_plan}
use Rattle.request_frames.specs.Forms.{schedule, send, recv}
use Rattle.demo_runs.specs.Texts.{rand_line, set_up_lines}
use Rattle.demo_runs.specs.SetUp.{seed_bytes, sender_line, set_up_plan}
use Rattle.demo_runs.proofs.HexFields.{no_feed, no_space, cut_behind, hex_is, field}
use Rattle.demo_runs.proofs.Steps.{Reads, reads_on, reads_line, line_is}

-- ---- `rand`

bytes_more : (b : ℕ) (bs : List ℕ) → b < 256 → IsBytes bs → IsBytes (b ∷ bs)
bytes_more b bs low are zero = low
bytes_more b bs low are (suc i) = are i

zeros_are : (n : ℕ) → IsBytes (replicate n 0)
zeros_are zero i = omega arith
zeros_are (suc n) i = bytes_more 0 (replicate n 0) (omega arith) (zeros_are n) i

a_byte : (x : ℕ) → x % 256 < 256
a_byte x = omega arith

byte_low : (k n : ℕ) → byte_at k n < 256
byte_low zero n = a_byte n
byte_low (suc k) n = a_byte (n / 256 ^ suc k)

high_are : (k n : ℕ) (rest : List ℕ) → IsBytes rest → IsBytes (bytes_high_first k n ++ rest)
high_are zero n rest are = are
high_are (suc k) n rest are =
    bytes_more (byte_at k n) (bytes_high_first k n ++ rest) (byte_low k n) (high_are k n rest are)

seed_are : (seed : ℕ) → IsBytes (seed_bytes seed)
seed_are seed = high_are 8 seed (replicate 24 0) (zeros_are 24)

rand_cut : (hex after : List ℕ) → lines_of (hex ++ (codes "\n" ++ after)) ≡ hex ∷ lines_of after
    → lines_of ((codes "rand " ++ (hex ++ codes "\n")) ++ after) ≡ (codes "rand " ++ hex) ∷ lines_of after
rand_cut hex after e = rw (append_assoc hex (codes "\n") after, e) refl

rand_pieces : (hex : List ℕ) → pieces_of hex ≡ hex ∷ []
    → pieces_of (codes "rand " ++ hex) ≡ codes "rand" ∷ hex ∷ []
rand_pieces hex e = rw e refl

rand_read : (plan : Plan) (hex bs : List ℕ) → bytes 32 [] hex ≡ Ok (pooled [] bs) → (length bs == 32) ≡ true
    → with_line false plan Rand (hex ∷ []) ≡ Ok (record plan { seed = Some bs })
unfolding with_rand rand next
rand_read plan hex bs read size = rw (read, size) refl

abbrev with_seed : ℕ → Plan
with_seed seed = record (empty_plan 1) { seed = Some (seed_bytes seed) }

reads_rand : (seed : ℕ) → Reads (empty_plan 1) (rand_line seed) (with_seed seed)
reads_rand seed =
    let bs : List ℕ = seed_bytes seed in
    let hex : List ℕ = hex_text bs in
    let digits : hex ≡ encode_lower bs = hex_is bs (omega arith) in
    let read : bytes 32 [] hex ≡ Ok (pooled [] bs) = field 32 [] bs (seed_are seed) (omega arith) (omega arith) in
    let feed : (after : List ℕ) → lines_of (hex ++ (codes "\n" ++ after)) ≡ hex ∷ lines_of after =
    λ after. rw digits (cut_behind 10 no_feed bs (codes "\n" ++ after) (lines_of after) refl) in
    let alone : pieces_of hex ≡ hex ∷ [] =
    rw digits (ap pieces_of (sym (append-nil (encode_lower bs))) ∙ cut_behind 32 no_space bs [] [] refl) in
    reads_line (empty_plan 1) (with_seed seed) (rand_line seed) (codes "rand " ++ hex)
    (λ after. rand_cut hex after (feed after))
    (line_is (empty_plan 1) (with_seed seed) (codes "rand " ++ hex) (codes "rand") (hex ∷ []) Rand
    (rand_pieces hex alone) refl refl refl (rand_read (empty_plan 1) hex bs read refl))

-- ---- the set-up

abbrev with_pair : ℕ → Plan
with_pair seed = record (with_seed seed) { keys = Generate ∷ [] }

key_read : (seed : ℕ) → with_line false (with_seed seed) (Key (keys.Generate Sntrup761)) [] ≡ Ok (with_pair seed)
unfolding with_key
key_read seed = refl

reads_key : (seed : ℕ) → Reads (with_seed seed) (codes "keygen\n") (with_pair seed)
reads_key seed =
    reads_line (with_seed seed) (with_pair seed) (codes "keygen\n") (codes "keygen") (λ after. refl)
    (line_is (with_seed seed) (with_pair seed) (codes "keygen") (codes "keygen") [] (Key (keys.Generate Sntrup761)) refl refl refl refl
    (key_read seed))

abbrev with_sender : ℕ → Plan
with_sender seed = record (with_pair seed) { pool = codes "demo"; contexts = sender_line ∷ [] }

abbrev schedule_fields : List (List ℕ)
schedule_fields = codes "base" ∷ codes "64656d6f" ∷ codes "-" ∷ codes "-" ∷ codes "65536" ∷ []

sender_read : (seed : ℕ)
    → with_line false (with_pair seed) (Context contexts.Send) (codes "1" ∷ codes "1" ∷ codes "0" ∷ schedule_fields)
    ≡ Ok (with_sender seed)
unfolding with_context send schedule next hex_on_literals decode_pairs
sender_read seed = refl

reads_sender : (seed : ℕ)
    → Reads (with_pair seed) (codes "send 1 1 0 base 64656d6f - - 65536\n") (with_sender seed)
reads_sender seed =
    let line : List ℕ = codes "send 1 1 0 base 64656d6f - - 65536" in
    reads_line (with_pair seed) (with_sender seed) (codes "send 1 1 0 base 64656d6f - - 65536\n") line (λ after. refl)
    (line_is (with_pair seed) (with_sender seed) line (codes "send") (codes "1" ∷ codes "1" ∷ codes "0" ∷ schedule_fields)
    (Context contexts.Send) refl refl refl refl (sender_read seed))

recipient_read : (seed : ℕ)
    → with_line false (with_sender seed) (Context contexts.Recv)
    (codes "1" ∷ codes "1" ∷ codes "0" ∷ codes "@0" ∷ schedule_fields)
    ≡ Ok (set_up_plan seed)
unfolding with_context recv schedule next hex_on_literals decode_pairs
recipient_read seed = refl

reads_recipient : (seed : ℕ)
    → Reads (with_sender seed) (codes "recv 1 1 0 @0 base 64656d6f - - 65536\n") (set_up_plan seed)
reads_recipient seed =
    let line : List ℕ = codes "recv 1 1 0 @0 base 64656d6f - - 65536" in
    reads_line (with_sender seed) (set_up_plan seed) (codes "recv 1 1 0 @0 base 64656d6f - - 65536\n") line (λ after. refl)
    (line_is (with_sender seed) (set_up_plan seed) line (codes "recv")
    (codes "1" ∷ codes "1" ∷ codes "0" ∷ codes "@0" ∷ schedule_fields)
    (Context contexts.Recv) refl refl refl refl (recipient_read seed))

-- all lines behind the first
pub reads_front : (seed : ℕ) → Reads (empty_plan 1) (rand_line seed ++ set_up_lines) (set_up_plan seed)
reads_front seed =
    reads_on (empty_plan 1) (with_seed seed) (set_up_plan seed) (rand_line seed) set_up_lines (reads_rand seed)
    (reads_on (with_seed seed) (with_pair seed) (set_up_plan seed) (codes "keygen\n")
    (codes "send 1 1 0 base 64656d6f - - 65536\n" ++ codes "recv 1 1 0 @0 base 64656d6f - - 65536\n") (reads_key seed)
    (reads_on (with_pair seed) (with_sender seed) (set_up_plan seed) (codes "send 1 1 0 base 64656d6f - - 65536\n")
    (codes "recv 1 1 0 @0 base 64656d6f - - 65536\n") (reads_sender seed) (reads_recipient seed)))

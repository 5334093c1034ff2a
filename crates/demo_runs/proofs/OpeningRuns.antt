-- A run that opens what was sealed.
use Rattle.std.proofs.Common.{◌≡◌, ◌≢◌, ℕ, zero, suc, ◌+◌, ◌<◌, List, [], ◌∷◌, ◌++◌, length, map, take, drop, Option, Some, None, refl, sym, ap, subst, ◌∙◌, append_assoc, length-append, arith}
use Rattle.std.specs.Prelude.{slice_get, option_map}
use Rattle.std.specs.List.{AllPairs, range_with_len, flat_map}
use Rattle.std.proofs.lemmas.List.{length-map, map-append}
use Rattle.std.proofs.lemmas.Option.{slice_get-map}
use Rattle.std.proofs.Math.Seq.{take-add}
use Rattle.call_places.specs.declared.entries.Place.{Place}
use Rattle.key_schedule.specs.declared.modes.Role.TheVariants as roles
use Rattle.hkdf_labelled.specs.declared.suites.Aead.TheVariants as aeads
use Rattle.hpke_context.specs.Answers.{Item, Unseal, Cipher, Opened_at, run as run_items}
use Rattle.hpke_context.specs.Contexts.{ContextView, cipher_of}
use Rattle.context_books.specs.Batches.{Ask, ToOpenAll, Batch, lane_of, block, place, on, items_of, items_in, spots}
use Rattle.context_books.specs.Merging.{all_asked}
use Rattle.context_books.specs.Legal.{Legal, reply_of}
use Rattle.context_books.proofs.Places.{not_in_front}
use Rattle.context_books.proofs.Lists.{on-append, on-spots_same}
use Rattle.context_books.proofs.Runs.{items_of-append, items_of-call}
use Rattle.context_books.proofs.OneLane.{one_lane_only}
use Rattle.batch_plans.specs.declared.plan.CallLine.{CallLine}
use Rattle.batch_plans.specs.declared.plan.CallLine.TheVariants.{UnsealAll}
use Rattle.batch_plans.specs.declared.replies.Reply.{Reply}
use Rattle.batch_plans.specs.declared.replies.Batch.{Batch as Guess}
use Rattle.batch_plans.specs.Lines.{batch_line}
use Rattle.batch_plans.specs.AnswersText.{reply_line, calls_lines}
use Rattle.batch_plans.specs.ReplyText.{numbered, all_lines}
use Rattle.context_books.specs.Standing.{standing_at, call_refusal}
use Rattle.context_books.specs.Asks.{ask_of, asked_by, ask_unless, cipher_in, cipher_at}
use Rattle.context_books.specs.Runs.{Run, asks_of, journal_of, guesses_of, place_line, answer_line_of, call_lines, served_lines, lines_unless}
use Rattle.context_books.specs.Guesses.{guess_at, missed_in}
use Rattle.demo_runs.specs.Demo.{sealed_text}
use Rattle.demo_runs.specs.Plans.{message, OpensThese, OpenAll, none, and_more}
use Rattle.demo_runs.specs.Steps.{opened_line}
use Rattle.demo_runs.proofs.Openings.{AreOpenings, reply_there, call_parted}

-- ---- what is asked, and where its places stand

abbrev part_ask : List (List ℕ) → Ask
part_ask part = ToOpenAll 1 (map message part)

abbrev pub the_unseal : List ℕ → Item
the_unseal ct = Unseal [] ct

abbrev pub joined : List (List (List ℕ)) → List (List ℕ)
joined parts = flat_map (λ (part : List (List ℕ)). part) parts

items_are : (part : List (List ℕ)) → items_in (part_ask part) ≡ map the_unseal part
items_are [] = refl
items_are (ct ∷ part) = ap (λ (xs : List Item). the_unseal ct ∷ xs) (items_are part)

length-items : (part : List (List ℕ)) → length (items_in (part_ask part)) ≡ length part
length-items part = ap length (items_are part) ∙ length-map part the_unseal

abbrev pub blocks : ℕ → List (List (List ℕ)) → List Place
blocks k [] = []
blocks k (part ∷ parts) = block 0 k 0 (length part) ++ blocks (k + 1) parts

places_are : (k : ℕ) (parts : List (List (List ℕ))) → on 1 (all_asked 0 k (map part_ask parts)) ≡ blocks k parts
places_are k [] = refl
places_are k (part ∷ parts) =
    let ps : List Place = block 0 k 0 (length (items_in (part_ask part))) in
    on-append 1 (spots 1 ps) (all_asked 0 (k + 1) (map part_ask parts))
    ∙ (λ i. on-spots_same 1 ps i ++ places_are (k + 1) parts i)
    ∙ ap (λ (m : ℕ). block 0 k 0 m ++ blocks (k + 1) parts) (length-items part)

module _ (b : Batch) where
  items_of_blocks : (k : ℕ) (parts : List (List (List ℕ)))
      → ((i : ℕ) (part : List (List ℕ)) → slice_get parts i ≡ Some part → slice_get (lane_of b 0) (k + i) ≡ Some (part_ask part))
      → items_of b (blocks k parts) ≡ map the_unseal (joined parts)
  items_of_blocks k [] at = refl
  items_of_blocks k (part ∷ parts) at =
      let here : slice_get (lane_of b 0) k ≡ Some (part_ask part) =
      ap (slice_get (lane_of b 0)) (let e : k ≡ k + 0 = omega arith in e) ∙ at 0 part refl in
      let first : items_of b (block 0 k 0 (length part)) ≡ map the_unseal part =
      ap (λ (m : ℕ). items_of b (block 0 k 0 m)) (sym (length-items part))
      ∙ items_of-call b 0 k (part_ask part) here ∙ items_are part in
      items_of-append b (block 0 k 0 (length part)) (blocks (k + 1) parts)
      ∙ (λ i. first i ++ items_of_blocks (k + 1) parts
      (λ j p there. ap (slice_get (lane_of b 0)) (let e : (k + 1) + j ≡ k + suc j = omega arith in e) ∙ at (suc j) p there) i)
      ∙ sym (map-append the_unseal part (joined parts))

length-block : (k i m : ℕ) → length (block 0 k i m) ≡ m
length-block k i zero = refl
length-block k i (suc m) = ap suc (length-block k (i + 1) m)

length-blocks : (k : ℕ) (parts : List (List (List ℕ))) → length (blocks k parts) ≡ length (joined parts)
length-blocks k [] = refl
length-blocks k (part ∷ parts) =
    omega (
      arith,
      length-append (block 0 k 0 (length part)) (blocks (k + 1) parts),
      length-append part (joined parts),
      length-block k 0 (length part),
      length-blocks (k + 1) parts,
    )

range-append : (n m k : ℕ) → range_with_len n (m + k) ≡ range_with_len n m ++ range_with_len (n + m) k
range-append n zero k =
    (λ i. range_with_len ((let e : n ≡ n + zero = omega arith in e) i) ((let f : zero + k ≡ k = omega arith in f) i))
range-append n (suc m) k =
    ap (range_with_len n) (let e : suc m + k ≡ suc (m + k) = omega arith in e)
    ∙ ap (λ (ns : List ℕ). n ∷ ns) (range-append (n + 1) m k
    ∙ ap (λ (s : ℕ). range_with_len (n + 1) m ++ range_with_len s k) (let e : (n + 1) + m ≡ n + suc m = omega arith in e))

-- ---- the run

-- one lane opens these ciphertexts on context 1, each to T
pub record OpeningRun (run : Run) (cts : List (List ℕ)) : Type 0 where
  pub recipient : ContextView
  pub stands : standing_at run.contexts 1 ≡ Some recipient
  pub role : recipient.role ≡ roles.Recipient
  pub aead : recipient.suite.aead ≡ aeads.Aes128
  pub lane : List CallLine
  pub lanes : run.plan.lanes ≡ lane ∷ []
  pub parts : List (List (List ℕ))
  pub whole : joined parts ≡ cts
  pub opens : OpenAll run.plan lane parts
  pub legal : Legal (asks_of run) 1 (journal_of run 1)
  pub answers : (n : ℕ) → n < length cts
      → slice_get (run_items (cipher_of recipient) 0 (map the_unseal cts)) n ≡ Some (Opened_at n sealed_text)

module _ (run : Run) (cts : List (List ℕ)) (t : OpeningRun run cts) where
  not_refused : (part : List (List ℕ)) (call : CallLine) → OpensThese run.plan part call → call_refusal run.contexts call ≡ None
  not_refused part call o =
      subst (λ (call : CallLine). call_refusal run.contexts call ≡ None) (sym o.call_is) (rw (t.stands, t.role, t.aead) refl)

  ask_is : (part : List (List ℕ)) (call : CallLine) → OpensThese run.plan part call → ask_of run.plan run.contexts call ≡ part_ask part
  ask_is part call o =
      ap (λ r. ask_unless r (asked_by run.plan call)) (not_refused part call o)
      ∙ ap (asked_by run.plan) o.call_is
      ∙ ap (ToOpenAll 1) o.messages

  asks_are : (calls : List CallLine) (parts : List (List (List ℕ))) → OpenAll run.plan calls parts
      → map (ask_of run.plan run.contexts) calls ≡ map part_ask parts
  asks_are _ _ none = refl
  asks_are _ _ (and_more {call = call} {cts = part} {calls = calls} {more = parts} first rest) =
      (λ i. ask_is part call first i ∷ asks_are calls parts rest i)

  batch_is : asks_of run ≡ map part_ask t.parts ∷ []
  batch_is =
      ap (map (map (ask_of run.plan run.contexts))) t.lanes
      ∙ ap (λ (asks : List Ask). asks ∷ []) (asks_are t.lane t.parts t.opens)

  pub journal_is : journal_of run 1 ≡ blocks 0 t.parts
  journal_is =
      (one_lane_only (map part_ask t.parts) 1 (journal_of run 1)).0
      (subst (λ (b : Batch). Legal b 1 (journal_of run 1)) batch_is t.legal)
      ∙ places_are 0 t.parts

  some_map : (o : Option (List (List ℕ))) (part : List (List ℕ)) → o ≡ Some part → option_map part_ask o ≡ Some (part_ask part)
  some_map o part e = ap (option_map part_ask) e

  items : items_of (asks_of run) (journal_of run 1) ≡ map the_unseal cts
  items =
      ap (items_of (asks_of run)) journal_is
      ∙ items_of_blocks (asks_of run) 0 t.parts
      (λ i part at. ap (λ (b : Batch). slice_get (lane_of b 0) (0 + i)) batch_is
      ∙ ap (slice_get (map part_ask t.parts)) (let e : 0 + i ≡ i = omega arith in e)
      ∙ slice_get-map part_ask t.parts i ∙ some_map (slice_get t.parts i) part at)
      ∙ ap (map the_unseal) t.whole

  -- the line of a place is that of its index
  line_at : (front after : List Place) (p : Place) → journal_of run 1 ≡ front ++ (p ∷ after)
      → place_line run 1 p ≡ opened_line (length front)
  line_at front after p parts =
      let c : Cipher = cipher_of t.recipient in
      let apart = not_in_front front after p (subst (AllPairs (λ (a b : Place). a ≢ b)) parts t.legal.once) in
      let size : length (journal_of run 1) ≡ length front + suc (length after) = ap length parts ∙ length-append front (p ∷ after) in
      let all : length (journal_of run 1) ≡ length cts = ap length journal_is ∙ length-blocks 0 t.parts ∙ ap length t.whole in
      let cipher_is : cipher_at run.contexts 1 ≡ c = ap cipher_in t.stands in
      ap (λ (c : Cipher). answer_line_of (reply_of (asks_of run) c (journal_of run 1) p)) cipher_is
      ∙ ap (λ (xs : List Item). answer_line_of (Rattle.context_books.specs.Legal.reply_in (journal_of run 1) (run_items c 0 xs) p)) items
      ∙ ap (λ (ps : List Place). answer_line_of (Rattle.context_books.specs.Legal.reply_in ps (run_items c 0 (map the_unseal cts)) p)) parts
      ∙ ap answer_line_of (reply_there front after p (run_items c 0 (map the_unseal cts)) apart ∙ t.answers (length front) (omega arith))

  block_lines : (k i m : ℕ) (front after : List Place) → journal_of run 1 ≡ front ++ (block 0 k i m ++ after)
      → map (place_line run 1) (block 0 k i m) ≡ map opened_line (range_with_len (length front) m)
  block_lines k i zero front after parts = refl
  block_lines k i (suc m) front after parts =
      let p : Place = place 0 k i in
      let rest : List Place = block 0 k (i + 1) m in
      let more = block_lines k (i + 1) m (front ++ (p ∷ [])) after (parts ∙ sym (append_assoc front (p ∷ []) (rest ++ after))) in
      let size : length (front ++ (p ∷ [])) ≡ length front + 1 = length-append front (p ∷ []) in
      (λ j. line_at front (rest ++ after) p parts j
      ∷ (more ∙ ap (λ (n : ℕ). map opened_line (range_with_len n m)) size) j)

  openings : (calls : List CallLine) (parts : List (List (List ℕ))) → OpenAll run.plan calls parts → AreOpenings calls
  openings _ _ none = tt
  openings _ _ (and_more {call = call} {cts = part} {calls = calls} {more = parts} first rest) =
      ((first.first, length part, let is : call ≡ UnsealAll 1 first.first (length part) = first.call_is in is), openings calls parts rest)

  -- the lines of all calls tell that the replies open T at the numbers in order
  pub lane_opened : (pool : List ℕ) (k : ℕ) (calls : List CallLine) (parts : List (List (List ℕ))) (front : List Place) → OpenAll run.plan calls parts
      → journal_of run 1 ≡ front ++ blocks k parts → (replies : List Reply) (guesses : List Guess)
      → calls_lines pool calls replies guesses ≡ all_lines (numbered (call_lines run 0) k calls)
      → map (reply_line pool) (take (length (joined parts)) replies) ≡ map opened_line (range_with_len (length front) (length (joined parts)))
  lane_opened pool k _ _ front none at replies guesses e = refl
  lane_opened pool k _ _ front (and_more {call = call} {cts = part} {calls = calls} {more = parts} first rest) at replies guesses e =
      let m : ℕ = length part in
      let n : ℕ = length front in
      let own : List Place = block 0 k 0 m in
      let guess : ℕ = guess_at (lane_of (asks_of run) 0) (guesses_of run 0) k in
      let missing : ℕ = missed_in (asks_of run) (cipher_at run.contexts 1) (journal_of run 1) 0 k m guess in
      let later : List (List ℕ) = all_lines (numbered (call_lines run 0) (k + 1) calls) in
      let lines : call_lines run 0 k call ≡ map opened_line (range_with_len n m) ++ batch_line guess missing ∷ [] =
      ap (λ r. lines_unless r (served_lines run 0 k call)) (not_refused part call first)
      ∙ ap (served_lines run 0 k) first.call_is
      ∙ ap (λ (ls : List (List ℕ)). ls ++ batch_line guess missing ∷ []) (block_lines k 0 m front (blocks (k + 1) parts) at) in
      let due : calls_lines pool (UnsealAll 1 first.first m ∷ calls) replies guesses ≡ map opened_line (range_with_len n m) ++ (batch_line guess missing ∷ later) =
      sym (ap (λ (call : CallLine). calls_lines pool (call ∷ calls) replies guesses) first.call_is) ∙ e
      ∙ ap (λ (ls : List (List ℕ)). ls ++ later) lines
      ∙ append_assoc (map opened_line (range_with_len n m)) (batch_line guess missing ∷ []) later in
      let parted = call_parted pool 1 first.first m n guess missing calls replies guesses later (openings calls parts rest) due in
      let next : length (front ++ own) ≡ n + m = omega (arith, length-append front own, length-block k 0 m) in
      let more = lane_opened pool (k + 1) calls parts (front ++ own) rest (at ∙ sym (append_assoc front own (blocks (k + 1) parts)))
      (drop m replies) parted.guesses parted.later in
      let size : length (joined (part ∷ parts)) ≡ m + length (joined parts) = length-append part (joined parts) in
      let r : ℕ = length (joined parts) in
      ap (λ (s : ℕ). map (reply_line pool) (take s replies)) size
      ∙ ap (map (reply_line pool)) (take-add m r replies)
      ∙ map-append (reply_line pool) (take m replies) (take r (drop m replies))
      ∙ (λ j. parted.own j ++ (more ∙ ap (λ (s : ℕ). map opened_line (range_with_len s r)) next) j)
      ∙ sym (map-append opened_line (range_with_len n m) (range_with_len (n + m) r))
      ∙ ap (map opened_line) (sym (range-append n m r))
      ∙ ap (λ (s : ℕ). map opened_line (range_with_len n s)) (sym size)

-- Ciphertexts go to the places of their numbers.
use Rattle.std.proofs.Common.{◌≡◌, ℕ, zero, suc, ◌+◌, ◌^◌, ◌<◌, List, [], ◌∷◌, ◌++◌, length, map, take, get_or, codes, inl, inr, refl, sym, ap, subst, ◌∙◌, append-nil, arith}
use Rattle.std.specs.Prelude.{slice_set}
use Rattle.std.specs.List.{flat_map}
use Rattle.std.proofs.lemmas.List.{length-set, get_or-set_other, take_more}
use Rattle.std.proofs.lemmas.Grind.{get_or-set_at, flat_map-append}
use Rattle.std.proofs.lemmas.Bool.{cases_eq}
use Rattle.std.proofs.lemmas.List.FromFn.{fill_by_all}
use Rattle.hex.specs.Hex.{IsBytes}
use Rattle.call_places.specs.declared.spans.Span.{Span}
use Rattle.call_places.specs.Spans.{span_bytes}
use Rattle.hpke_context.specs.Contexts.{ContextView}
use Rattle.context_books.proofs.Members.{In-left, In-right}
use Rattle.context_books.specs.Lists.{In}
use Rattle.batch_plans.specs.declared.plan.CallLine.{CallLine}
use Rattle.batch_plans.specs.declared.replies.Reply.{Reply}
use Rattle.batch_plans.specs.declared.replies.Reply.TheVariants.{Blank, Sealed}
use Rattle.batch_plans.specs.declared.replies.LaneAnswers.{LaneAnswers}
use Rattle.batch_plans.specs.Lines.{served_line}
use Rattle.batch_plans.specs.AnswersText.{reply_line}
use Rattle.demo_runs.specs.Demo.{sealed_at}
use Rattle.demo_runs.specs.Batches.{ciphertexts}
use Rattle.demo_runs.specs.Steps.{sealed_line, IsSealedReply, SealedLane, SealedLanes, AreLow, IsSealedLane, AreSealedLanes, put_all}
use Rattle.demo_runs.proofs.Lines.{lines_same}

-- a reply whose line is that of a number has this number and its ciphertext
pub sealed_told : (context : ContextView) (n number : ℕ) (pool bytes : List ℕ) (text : Span) (reply : Reply)
    → reply ≡ Sealed number text → bytes ≡ span_bytes pool text → IsBytes bytes → number < 2 ^ 64 → n < 65536
    → reply_line pool reply ≡ sealed_line context n → (number ≡ n) × (bytes ≡ sealed_at context n)
sealed_told context n number pool bytes text reply is named are small low e =
    lines_same (codes "sealed ") number n bytes (sealed_at context n) small (omega arith) are
    (ap (served_line (codes "sealed ") number) named ∙ sym (ap (reply_line pool) is) ∙ e)

-- ---- lists

pub line_at : {X Y : Type 0} (f : X → List ℕ) (g : Y → List ℕ) (xs : List X) (ys : List Y) (k i : ℕ) (d : X) (e : Y)
    → map f (take k xs) ≡ map g ys → length ys ≡ k → i < k → (i < length xs) × (f (get_or xs i d) ≡ g (get_or ys i e))
line_at f g xs ys zero i d e same size low = absurd (omega arith)
line_at f g xs [] (suc k) i d e same size low = absurd (omega arith)
line_at f g [] (y ∷ ys) (suc k) i d e same size low = absurd cc
line_at f g (x ∷ xs) (y ∷ ys) (suc k) zero d e same size low = (omega arith, cc)
line_at f g (x ∷ xs) (y ∷ ys) (suc k) (suc i) d e same size low =
    let rest : map f (take k xs) ≡ map g ys = cc in
    let more = line_at f g xs ys k i d e rest (omega arith) (omega arith) in
    (omega arith, more.1)

pub get_in : {X : Type 0} (xs : List X) (i : ℕ) (d : X) → i < length xs → In (get_or xs i d) xs
get_in [] i d low = absurd (omega arith)
get_in (x ∷ xs) zero d low = inl refl
get_in (x ∷ xs) (suc i) d low = inr (get_in xs i d (omega arith))

pub in_flat : (lists : List (List ℕ)) (i : ℕ) (n : ℕ) → i < length lists → In n (get_or lists i [])
    → In n (flat_map (λ (ns : List ℕ). ns) lists)
in_flat [] i n low here = absurd (omega arith)
in_flat (ns ∷ lists) zero n low here = In-left n ns (flat_map (λ (ns : List ℕ). ns) lists) here
in_flat (ns ∷ lists) (suc i) n low here = In-right n ns (flat_map (λ (ns : List ℕ). ns) lists) (in_flat lists i n (omega arith) here)

pub lane_at : (context : ContextView) (lanes : List (List CallLine)) (answers : List LaneAnswers) (numbers : List (List ℕ)) (i : ℕ)
    (a : List CallLine) (d : LaneAnswers) → SealedLanes context lanes answers numbers → i < length lanes
    → (i < length answers) × (i < length numbers) × SealedLane context (get_or lanes i a) (get_or answers i d) (get_or numbers i [])
lane_at context [] answers numbers i a d all low = absurd (omega arith)
lane_at context (calls ∷ lanes) [] numbers i a d all low = absurd all
lane_at context (calls ∷ lanes) (lane ∷ answers) [] i a d all low = absurd all
lane_at context (calls ∷ lanes) (lane ∷ answers) (ns ∷ numbers) zero a d all low = (omega arith, omega arith, all.0)
lane_at context (calls ∷ lanes) (lane ∷ answers) (ns ∷ numbers) (suc i) a d all low =
    let more = lane_at context lanes answers numbers i a d all.1 (omega arith) in
    (omega arith, omega arith, more.2)

pub same_count : (context : ContextView) (lanes : List (List CallLine)) (answers : List LaneAnswers) (numbers : List (List ℕ))
    → SealedLanes context lanes answers numbers → length numbers ≡ length lanes
same_count context [] [] [] all = refl
same_count context [] [] (ns ∷ numbers) all = absurd all
same_count context [] (lane ∷ answers) numbers all = absurd all
same_count context (calls ∷ lanes) [] numbers all = absurd all
same_count context (calls ∷ lanes) (lane ∷ answers) [] all = absurd all
same_count context (calls ∷ lanes) (lane ∷ answers) (ns ∷ numbers) all = ap suc (same_count context lanes answers numbers all.1)

-- ---- what is put

pub put-append : (context : ContextView) (cts : List (List ℕ)) (ms ns : List ℕ)
    → put_all context cts (ms ++ ns) ≡ put_all context (put_all context cts ms) ns
put-append context cts [] ns = refl
put-append context cts (m ∷ ms) ns = put-append context (slice_set cts m (sealed_at context m)) ms ns

pub length-put : (context : ContextView) (cts : List (List ℕ)) (ns : List ℕ) → length (put_all context cts ns) ≡ length cts
length-put context cts [] = refl
length-put context cts (n ∷ ns) = length-put context (slice_set cts n (sealed_at context n)) ns ∙ length-set cts n (sealed_at context n)

-- a place that has its ciphertext keeps it
put_keeps : (context : ContextView) (cts : List (List ℕ)) (ns : List ℕ) (n : ℕ) (d : List ℕ) → n < length cts
    → get_or cts n d ≡ sealed_at context n → get_or (put_all context cts ns) n d ≡ sealed_at context n
put_keeps context cts [] n d low has = has
put_keeps context cts (m ∷ ns) n d low has =
    let ct : List ℕ = sealed_at context m in
    let size = length-set cts m ct in
    put_keeps context (slice_set cts m ct) ns n d (omega arith)
    (elim (cases_eq n m) [
      | inl same ↦
          get_or-set_at cts m n ct d same (omega arith) ∙ ap (sealed_at context) (sym same)
      | inr other ↦ get_or-set_other cts m n ct d other ∙ has
    ])

-- each number has its ciphertext
put_holds : (context : ContextView) (cts : List (List ℕ)) (ns : List ℕ) (n : ℕ) (d : List ℕ) → n < length cts
    → In n ns → get_or (put_all context cts ns) n d ≡ sealed_at context n
put_holds context cts [] n d low here = absurd here
put_holds context cts (m ∷ ns) n d low here =
    let ct : List ℕ = sealed_at context m in
    let size = length-set cts m ct in
    elim here [
      | inl same ↦ put_keeps context (slice_set cts m ct) ns n d (omega arith)
          (get_or-set_at cts m n ct d (sym same) (omega arith) ∙ ap (sealed_at context) same)
      | inr later ↦ put_holds context (slice_set cts m ct) ns n d (omega arith) later
    ]

-- all of them in number order
pub put_whole : (context : ContextView) (cts : List (List ℕ)) (ns : List ℕ) (messages : ℕ) → length cts ≡ messages
    → ((n : ℕ) → n < messages → In n ns) → put_all context cts ns ≡ ciphertexts context messages
put_whole context cts ns messages size all =
    fill_by_all (sealed_at context) (put_all context cts ns) messages [] (length-put context cts ns ∙ size)
    (λ n low. put_holds context cts ns n [] (omega arith) (all n low))

-- ---- one reply more, one lane more

pub put_one : (context : ContextView) (now new start : List (List ℕ)) (ns : List ℕ) (i : ℕ) → i < length ns
    → now ≡ put_all context start (take i ns)
    → new ≡ slice_set now (get_or ns i 0) (sealed_at context (get_or ns i 0))
    → new ≡ put_all context start (take (i + 1) ns)
put_one context now new start ns i low old step =
    let n : ℕ = get_or ns i 0 in
    step ∙ ap (λ (cts : List (List ℕ)). slice_set cts n (sealed_at context n)) old
    ∙ sym (put-append context start (take i ns) (n ∷ []))
    ∙ ap (put_all context start) (sym (take_more ns i 0 low))

pub put_lane_more : (context : ContextView) (now new start : List (List ℕ)) (lists : List (List ℕ)) (i : ℕ) → i < length lists
    → now ≡ put_all context start (flat_map (λ (ns : List ℕ). ns) (take i lists))
    → new ≡ put_all context now (get_or lists i [])
    → new ≡ put_all context start (flat_map (λ (ns : List ℕ). ns) (take (i + 1) lists))
put_lane_more context now new start lists i low old step =
    let ns : List ℕ = get_or lists i [] in
    let front : List ℕ = flat_map (λ (ns : List ℕ). ns) (take i lists) in
    step ∙ ap (λ (cts : List (List ℕ)). put_all context cts ns) old
    ∙ sym (put-append context start front ns)
    ∙ ap (λ (rest : List ℕ). put_all context start (front ++ rest)) (sym (append-nil ns))
    ∙ ap (put_all context start) (sym (flat_map-append (λ (ns : List ℕ). ns) (take i lists) (ns ∷ [])))
    ∙ ap (λ (all : List (List ℕ)). put_all context start (flat_map (λ (ns : List ℕ). ns) all)) (sym (take_more lists i [] low))

-- ---- what calls ask for

pub reply_line_is : (calls : List CallLine) (lane : LaneAnswers) (pool : List ℕ) (replies : List Reply) (i : ℕ) (context : ContextView) (numbers : List ℕ)
    → SealedLane context calls lane numbers → pool ≡ lane.pool → replies ≡ lane.replies → i < length calls
    → reply_line pool (get_or replies i Blank) ≡ sealed_line context (get_or numbers i 0)
reply_line_is calls lane pool replies i context numbers s same_pool same_replies low =
    (λ j. reply_line (same_pool j) (get_or (same_replies j) i Blank))
    ∙ (line_at (reply_line lane.pool) (sealed_line context) lane.replies numbers (length calls) i Blank 0 s.lines s.count low).1

pub reply_within : (calls : List CallLine) (lane : LaneAnswers) (replies : List Reply) (i : ℕ) (context : ContextView) (numbers : List ℕ)
    → SealedLane context calls lane numbers → replies ≡ lane.replies → i < length calls → i < length replies
reply_within calls lane replies i context numbers s same low =
    let at = line_at (reply_line lane.pool) (sealed_line context) lane.replies numbers (length calls) i Blank 0 s.lines s.count low in
    subst (λ (rs : List Reply). i < length rs) (sym same) at.0

pub reply_sealed : (count : ℕ) (calls : List CallLine) (lane : LaneAnswers) (pool : List ℕ) (replies : List Reply) (i : ℕ) → IsSealedLane count calls lane
    → pool ≡ lane.pool → replies ≡ lane.replies → i < length calls → IsSealedReply count pool (get_or replies i Blank)
reply_sealed count calls lane pool replies i s same_pool same_replies low =
    let at = line_at (reply_line lane.pool) (sealed_line s.context) lane.replies s.numbers (length calls) i Blank 0 s.lane_is.lines s.lane_is.count low in
    let size = s.lane_is.count in
    let n : ℕ = get_or s.numbers i 0 in
    subst (λ (p : List ℕ). IsSealedReply count p (get_or replies i Blank)) (sym same_pool)
    (subst (λ (rs : List Reply). IsSealedReply count lane.pool (get_or rs i Blank)) (sym same_replies)
    (record {
      context = s.context;
      number = n;
      low = s.are_low.low n (get_in s.numbers i 0 (omega arith));
      line = at.1;
      size = s.are_low.size n;
      range = s.lane_is.printable i Blank at.0;
    }))

pub number_low : (count : ℕ) (context : ContextView) (numbers : List ℕ) (i : ℕ) → AreLow count context numbers → i < length numbers
    → get_or numbers i 0 < 65536
number_low count context numbers i low within =
    let a = low.low (get_or numbers i 0) (get_in numbers i 0 within) in
    let b = low.few in
    omega arith

pub low_of_lane : (count : ℕ) (context : ContextView) (numbers : List (List ℕ)) (i : ℕ) → AreLow count context (flat_map (λ (ns : List ℕ). ns) numbers)
    → i < length numbers → AreLow count context (get_or numbers i [])
low_of_lane count context numbers i low within = record {
  few = low.few;
  low = λ n here. low.low n (in_flat numbers i n within here);
  size = low.size;
}

pub lane_sealed : (count : ℕ) (lanes : List (List CallLine)) (answers : List LaneAnswers) (i : ℕ) (a : List CallLine) (d : LaneAnswers)
    → AreSealedLanes count lanes answers → i < length lanes → IsSealedLane count (get_or lanes i a) (get_or answers i d)
lane_sealed count lanes answers i a d s low =
    let at = lane_at s.context lanes answers s.numbers i a d s.lanes_are low in
    record {
      context = s.context;
      numbers = get_or s.numbers i [];
      lane_is = at.2;
      are_low = low_of_lane count s.context s.numbers i s.are_low at.1;
    }

pub lane_here : (count : ℕ) (lanes lanes_now : List (List CallLine)) (answers answers_now : List LaneAnswers) (i : ℕ) (calls held : List CallLine) (lane : LaneAnswers)
    → AreSealedLanes count lanes answers → lanes_now ≡ lanes → answers_now ≡ answers → i < length lanes
    → calls ≡ held → held ≡ get_or lanes_now i held → lane ≡ get_or answers_now i lane → IsSealedLane count calls lane
lane_here count lanes lanes_now answers answers_now i calls held lane s same_lanes same_answers low is first second =
    let a : calls ≡ get_or lanes i held = is ∙ first ∙ ap (λ (xs : List (List CallLine)). get_or xs i held) same_lanes in
    let b : lane ≡ get_or answers i lane = second ∙ ap (λ (xs : List LaneAnswers). get_or xs i lane) same_answers in
    subst (λ (x : List CallLine). IsSealedLane count x lane) (sym a)
    (subst (λ (y : LaneAnswers). IsSealedLane count (get_or lanes i held) y) (sym b) (lane_sealed count lanes answers i held lane s low))

pub lane_numbers : (context : ContextView) (numbers : List (List ℕ)) (lanes lanes_now : List (List CallLine)) (answers answers_now : List LaneAnswers) (i : ℕ)
    (calls held : List CallLine) (lane : LaneAnswers)
    → SealedLanes context lanes answers numbers → lanes_now ≡ lanes → answers_now ≡ answers → i < length lanes
    → calls ≡ held → held ≡ get_or lanes_now i held → lane ≡ get_or answers_now i lane
    → (i < length numbers) × SealedLane context calls lane (get_or numbers i [])
lane_numbers context numbers lanes lanes_now answers answers_now i calls held lane s same_lanes same_answers low is first second =
    let a : calls ≡ get_or lanes i held = is ∙ first ∙ ap (λ (xs : List (List CallLine)). get_or xs i held) same_lanes in
    let b : lane ≡ get_or answers i lane = second ∙ ap (λ (xs : List LaneAnswers). get_or xs i lane) same_answers in
    let at = lane_at context lanes answers numbers i held lane s low in (
      at.1,
      subst (λ (x : List CallLine). SealedLane context x lane (get_or numbers i [])) (sym a)
          (subst (λ (y : LaneAnswers). SealedLane context (get_or lanes i held) y (get_or numbers i [])) (sym b) at.2),
    )

-- a lane that isn't there answers nothing
abbrev pub no_answers : LaneAnswers
no_answers = record { pool = []; replies = []; batches = [] }

pub answers_within : (count : ℕ) (lanes lanes_now : List (List CallLine)) (answers answers_now : List LaneAnswers) (i : ℕ) (d : LaneAnswers)
    → AreSealedLanes count lanes answers → answers_now ≡ answers → i < length lanes → i < length answers_now
answers_within count lanes lanes_now answers answers_now i d s same low =
    subst (λ (xs : List LaneAnswers). i < length xs) (sym same) (lane_at s.context lanes answers s.numbers i [] d s.lanes_are low).0

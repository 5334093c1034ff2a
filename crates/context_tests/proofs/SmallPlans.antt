-- The small batches of the tests are within the limits.
use Rattle.std.proofs.Common.{◌≡◌, ◌<◌, ◌≤◌, ◌^◌, ℕ, ◌+◌, ◌&&◌, Bool, true, List, [], ◌∷◌, length, sym, refl, ap, ◌∙◌, ◌*◌, subst, arith, None, inr, eqb-true}
use Rattle.std.specs.Prelude.{nat_le, nat_eq}
use Rattle.std.specs.List.{All, list_all}
use Rattle.std.proofs.lemmas.List.Elements.{All-nil, All-cons}
use Rattle.call_places.specs.declared.spans.Span.{Span}
use Rattle.call_places.specs.declared.spans.Item.{Item}
use Rattle.key_schedule.specs.declared.modes.Role.{Role}
use Rattle.key_schedule.specs.declared.modes.Role.TheVariants.{Sender, Recipient}
use Rattle.context_books.proofs.Truths.{and_left, and_right, le_true}
use Rattle.hkdf_labelled.specs.declared.suites.Kdf.{Kdf}
use Rattle.hkdf_labelled.specs.declared.suites.Kdf.TheVariants.{Sha256}
use Rattle.hkdf_labelled.specs.Suites.{hash_size}
use Rattle.hpke_context.specs.Contexts.{ContextView, export_limit}
use Rattle.batch_plans.specs.declared.plan.Plan.{Plan}
use Rattle.batch_plans.specs.declared.plan.CallLine.{CallLine}
use Rattle.batch_plans.specs.declared.plan.CallLine.TheVariants.{Seal, Unseal, UnsealAll, Export, Add, Retire}
use Rattle.batch_plans.specs.declared.replies.KeyReply.{KeyReply}
use Rattle.batch_plans.specs.declared.replies.ContextReply.{ContextReply}
use Rattle.batch_plans.specs.declared.replies.Answers.{Answers}
use Rattle.batch_plans.specs.Room.{room_for}
use Rattle.batch_plans.specs.Limits.{most_plaintext, most_ciphertext, all_items, all_sizes}
use Rattle.batch_plans.specs.Within.{IsField, IsItemWithin, IsCallWithin, IsContextWithin, IsKeyWithin, IsPlain, IsPlainCall, IsWithinLimits, all_texts}
use Rattle.context_tests.specs.SmallPlans.{is_small_span, is_small_item, is_small_call, are_small, no_span, line_of, two_lines}

all_of : {X : Type 0} (test : X → Bool) (P : X → Type 0) → ((x : X) → test x ≡ true → P x)
    → (xs : List X) → list_all test xs ≡ true → All P xs
all_of test P each [] passed = All-nil P
all_of test P each (x ∷ xs) passed =
    All-cons P x xs (each x (and_left (test x) (list_all test xs) passed))
    (all_of test P each xs (and_right (test x) (list_all test xs) passed))

small_field : (most : ℕ) (span : Span) → 223 ≤ most → is_small_span span ≡ true
    → IsField most 1024 span
small_field most span enough passed =
    let low = le_true (span.start + span.len) 223 passed in
    record { in_pool = omega arith; size = omega arith }

small_item : (most : ℕ) (item : Item) → 223 ≤ most → is_small_item item ≡ true
    → IsItemWithin most 1024 item
small_item most item enough passed = record {
  aad = small_field 65535 item.aad (omega arith)
      (and_left (is_small_span item.aad) (is_small_span item.text) passed);
  text = small_field most item.text enough
      (and_right (is_small_span item.aad) (is_small_span item.text) passed);
}

small_call : (call : CallLine) → is_small_call call ≡ true → IsCallWithin 14 1024 call
small_call (Seal context item) passed = (
  (let low = le_true context 1 (and_left (nat_le context 1) (is_small_item item) passed) in omega arith),
  small_item most_plaintext item (omega arith)
      (and_right (nat_le context 1) (is_small_item item) passed),
)
small_call (Unseal context item) passed = (
  (let low = le_true context 1 (and_left (nat_le context 1) (is_small_item item) passed) in omega arith),
  small_item most_ciphertext item (omega arith)
      (and_right (nat_le context 1) (is_small_item item) passed),
)
small_call (UnsealAll context first count) passed =
    let front = nat_le context 1 && nat_le 1 count in
    let both = and_left front (nat_le (first + count) 14) passed in
    let a = le_true context 1 (and_left (nat_le context 1) (nat_le 1 count) both) in
    let b = le_true 1 count (and_right (nat_le context 1) (nat_le 1 count) both) in
    let c = le_true (first + count) 14 (and_right front (nat_le (first + count) 14) passed) in
    (omega arith, omega arith, omega arith, omega arith)
small_call (Export context exporter size) passed =
    let front = nat_le context 1 && is_small_span exporter in
    let both = and_left front (nat_le size 65535) passed in
    let a = le_true context 1 (and_left (nat_le context 1) (is_small_span exporter) both) in
    let b = le_true size 65535 (and_right front (nat_le size 65535) passed) in (
      omega arith,
      small_field 65535 exporter (omega arith)
          (and_right (nat_le context 1) (is_small_span exporter) both),
      omega arith,
    )
small_call (Add name) passed = absurd cc
small_call (Retire name) passed = absurd cc

plain_call : (call : CallLine) → is_small_call call ≡ true → IsPlainCall call
plain_call (Seal context item) passed =
    let low = le_true context 1 (and_left (nat_le context 1) (is_small_item item) passed) in
    omega arith
plain_call (Unseal context item) passed =
    let low = le_true context 1 (and_left (nat_le context 1) (is_small_item item) passed) in
    omega arith
plain_call (UnsealAll context first count) passed =
    let front = nat_le context 1 && nat_le 1 count in
    let both = and_left front (nat_le (first + count) 14) passed in
    let low = le_true context 1 (and_left (nat_le context 1) (nat_le 1 count) both) in
    omega arith
plain_call (Export context exporter size) passed =
    let front = nat_le context 1 && is_small_span exporter in
    let both = and_left front (nat_le size 65535) passed in
    let low = le_true context 1 (and_left (nat_le context 1) (is_small_span exporter) both) in
    omega arith
plain_call call passed = absurd cc

no_field : (most : ℕ) → IsField most 1024 no_span
no_field most = record { in_pool = omega arith; size = omega arith }

line_within : (role : Role) (limit : ℕ) → 1 ≤ limit → limit < 2 ^ 64
    → IsContextWithin None 1024 (line_of role limit)
line_within role limit least most = record {
  kind = (omega arith, no_field 65535);
  info = no_field 65535;
  psk = no_field 65535;
  psk_id = no_field 65535;
  limit_least = least;
  limit_most = most;
}

module _ (pool : List ℕ) (limit : ℕ) (items : List Item) (lanes : List (List CallLine))
    (size : length pool ≡ 1024) (least : 1 ≤ limit) (most : limit < 2 ^ 64)
    (passed : are_small items lanes ≡ true) where
  abbrev plan : Plan
  plan = record {
    version = 2;
    seed = None;
    pool = pool;
    keys = [];
    contexts = two_lines limit;
    items = items;
    lanes = lanes;
    added = 0;
  }

  pub small_plan : IsWithinLimits plan
  small_plan =
      let b6 : Bool = nat_le (all_texts items lanes) 1024 in
      let b5 : Bool = nat_le (all_sizes lanes) 65535 in
      let b4 : Bool = nat_le (all_items lanes) 14 in
      let b3 : Bool = nat_le (length lanes) 2 in
      let b2 : Bool = list_all (λ calls. list_all is_small_call calls) lanes in
      let b1 : Bool = nat_eq (length items) 14 in
      let b0 : Bool = list_all is_small_item items in
      let p1 = and_right b0 (b1 && (b2 && (b3 && (b4 && (b5 && b6))))) passed in
      let p2 = and_right b1 (b2 && (b3 && (b4 && (b5 && b6)))) p1 in
      let p3 = and_right b2 (b3 && (b4 && (b5 && b6))) p2 in
      let p4 = and_right b3 (b4 && (b5 && b6)) p3 in
      let p5 = and_right b4 (b5 && b6) p4 in
      let count : length items ≡ 14 = eqb-true (length items) 14 (and_left b1 (b2 && (b3 && (b4 && (b5 && b6)))) p1) in
      let lane_count = le_true (length lanes) 2 (and_left b3 (b4 && (b5 && b6)) p3) in
      let item_total = le_true (all_items lanes) 14 (and_left b4 (b5 && b6) p4) in
      let sizes = le_true (all_sizes lanes) 65535 (and_left b5 b6 p5) in
      let texts = le_true (all_texts items lanes) 1024 (and_right b5 b6 p5) in
      let P = IsCallWithin 14 1024 in
      let item_list = all_of is_small_item (IsItemWithin most_ciphertext 1024)
      (λ item ok. small_item most_ciphertext item (omega arith) ok) items (and_left b0 (b1 && (b2 && (b3 && (b4 && (b5 && b6))))) passed) in
      let call_lines = all_of (λ calls. list_all is_small_call calls) (All P)
      (λ calls ok. all_of is_small_call P small_call calls ok) lanes (and_left b2 (b3 && (b4 && (b5 && b6))) p2) in
      let Q = IsContextWithin None 1024 in
      let lines = All-cons Q (line_of Sender limit) (line_of Recipient limit ∷ [])
      (line_within Sender limit least most)
      (All-cons Q (line_of Recipient limit) [] (line_within Recipient limit least most) (All-nil Q)) in
      record {
        version = inr refl;
        pool = omega arith;
        keys = omega arith;
        contexts = omega arith;
        added = omega arith;
        lanes = omega arith;
        items = omega arith;
        exported = omega arith;
        texts = omega arith;
        key_lines = All-nil (IsKeyWithin None (length pool));
        context_lines = subst (λ n. All (IsContextWithin None n) (two_lines limit)) (sym size) lines;
        item_count = omega arith;
        item_list = subst (λ n. All (IsItemWithin most_ciphertext n) items) (sym size) item_list;
        call_lines = subst (λ n. All (All (IsCallWithin (length items) n)) lanes) (sym size)
            (subst (λ n. All (All (IsCallWithin n 1024)) lanes) (sym count) call_lines);
      }

  -- no context is added or retired
  pub plain_plan : IsPlain plan
  plain_plan =
      let rest = nat_eq (length items) 14 && (list_all (λ calls. list_all is_small_call calls) lanes
      && (nat_le (length lanes) 2 && (nat_le (all_items lanes) 14 && (nat_le (all_sizes lanes) 65535
      && nat_le (all_texts items lanes) 1024)))) in
      let small = list_all (λ calls. list_all is_small_call calls) lanes in
      let behind = nat_le (length lanes) 2 && (nat_le (all_items lanes) 14
      && (nat_le (all_sizes lanes) 65535 && nat_le (all_texts items lanes) 1024)) in
      let calls = and_left small behind (and_right (nat_eq (length items) 14) (small && behind)
      (and_right (list_all is_small_item items) rest passed)) in
      record {
        added = refl;
        calls = all_of (λ calls. list_all is_small_call calls) (All IsPlainCall)
            (λ calls ok. all_of is_small_call IsPlainCall plain_call calls ok) lanes calls;
      }

-- ---- the room for such a plan

export_limit_is : (view : ContextView) → view.suite.kdf ≡ Sha256 → export_limit view ≡ 8160
export_limit_is view is = ap (λ (kdf : Kdf). 255 * hash_size kdf) is

-- the room for a plan whose contexts stay, by the contexts that stand
pub plain_room : (plan : Plan) (answers : Answers) (keys : List KeyReply)
    (replies : List ContextReply) (first second : ContextView)
    → answers ≡ room_for plan keys replies (8160 ∷ 8160 ∷ [])
    → first.suite.kdf ≡ Sha256 → second.suite.kdf ≡ Sha256
    → answers ≡ room_for plan answers.keys answers.contexts
    (export_limit first ∷ export_limit second ∷ [])
plain_room plan answers keys replies first second made first_is second_is =
    let limits : List ℕ = 8160 ∷ 8160 ∷ [] in
    let limits_are : export_limit first ∷ export_limit second ∷ [] ≡ limits =
    (λ i. export_limit_is first first_is i ∷ export_limit_is second second_is i ∷ []) in
    made
    ∙ (λ i. room_for plan (sym (ap (λ (a : Answers). a.keys) made) i)
    (sym (ap (λ (a : Answers). a.contexts) made) i) (sym limits_are i))

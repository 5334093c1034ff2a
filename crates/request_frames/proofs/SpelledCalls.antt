-- The pieces of a call line are those of what it spells.
use Rattle.std.proofs.Common.{◌≡◌, ℕ, ◌+◌, ◌*◌, ◌%◌, ◌<◌, ◌≤◌, ◌==◌, ◌&&◌, nat_lt, Bool, false, List, [], ◌∷◌, ◌++◌, length, sum_by, codes, Ok, refl, sym, ap, subst, ◌∙◌, append_assoc, append-nil, lit<, arith}
use Rattle.std.specs.List.{All, flat_map}
use Rattle.std.proofs.lemmas.Bool.{and_parts, ltb-true}
use Rattle.std.proofs.lemmas.List.Elements.{All-nil, All-cons}
use Rattle.std.proofs.lemmas.List.Sums.{sum_by-cons}
use Rattle.call_places.specs.declared.spans.Item.{Item}
use Rattle.field_text.specs.declared.reasons.Reason.TheVariants.{Fields}
use Rattle.field_text.specs.Fields.{number, bytes}
use Rattle.field_text.proofs.Spellings.{ok_same, step_ok, test_ok, next_ok, exactly_ok, number_ok, bytes_ok, IsFront, IsFront-same, IsFront-then}
use Rattle.field_text.proofs.SpelledLines.{no_piece}
use Rattle.batch_plans.specs.declared.plan.CallLine.{CallLine}
use Rattle.batch_plans.specs.declared.plan.CallLine.TheVariants.{Seal, Unseal}
use Rattle.batch_plans.specs.declared.plan.ContextLine.{ContextLine}
use Rattle.batch_plans.specs.Limits.{most_field, most_plaintext, most_ciphertext, first_name}
use Rattle.batch_plans.specs.Within.{text_size, IsItemWithin, IsNumber, IsCallWithin, IsPlainCall}
use Rattle.request_frames.proofs.SpelledKeyFields.{piece_is, front_length, field_within}
use Rattle.request_frames.specs.Forms.{ctx, item, one_item, seal, unseal, export, pairs, unseal_all}
use Rattle.request_frames.specs.PlanText.{ctx_text, item_pieces, call_pieces}
use Rattle.request_frames.specs.LivePlans.{name_added}
use Rattle.request_frames.proofs.SpelledFields.{ctx_ok}

-- ---- items

-- an item that was read, and the pieces behind it: the pool grew by its text at least
record IsItem (most : ℕ) (old new : List ℕ) (read : Item) (rest pieces : List (List ℕ)) : Type 0 where
  grown : IsFront old new
  spelled : (whole : List ℕ) → IsFront new whole → item_pieces whole read ++ rest ≡ pieces
  within : (size : ℕ) → length new ≤ size → IsItemWithin most size read
  text : length old + read.text.len ≤ length new
  count : length pieces ≡ length rest + 2

item_ok : (most : ℕ) (pool : List ℕ) (pieces : List (List ℕ)) (read : (Item × List ℕ) × List (List ℕ)) → item most pool pieces ≡ Ok read
    → IsItem most pool read.0.1 read.0.0 read.1 pieces
unfolding item
item_ok most pool pieces read e =
    next_ok (bytes most_field pool) pieces _ read _
    (λ p1 aad r1 cut1 read1 e.
    next_ok (bytes most aad.pool) r1 _ read _
    (λ p2 text r2 cut2 read2 e.
    let field1 = bytes_ok most_field pool p1 aad read1 in
    let field2 = bytes_ok most aad.pool p2 text read2 in
    let few1 = front_length pool aad.pool field1.grown in
    let few2 = front_length aad.pool text.pool field2.grown in
    let IsRead : (Item × List ℕ) × List (List ℕ) → Type 0 = λ read. IsItem most pool read.0.1 read.0.0 read.1 pieces in
    subst IsRead (ok_same _ _ e) record {
      grown = IsFront-then pool aad.pool text.pool field1.grown field2.grown;
      spelled = λ whole h.
          piece_is cut1 (field1.spelled whole (IsFront-then aad.pool text.pool whole field2.grown h)) (piece_is cut2 (field2.spelled whole h) refl);
      within = λ size long. record {
        aad = field_within most_field pool p1 aad size field1 (omega (arith, few2, long));
        text = field_within most aad.pool p2 text size field2 long;
      };
      text = omega (arith, few1, field2.start, field2.end);
      count = omega (arith, ap length cut1, ap length cut2);
    })
    e)
    e

-- `CTX AAD TEXT`
record IsOne (names : Bool) (most : ℕ) (old : List ℕ) (read : ℕ × Item × List ℕ) (pieces : List (List ℕ)) : Type 0 where
  context : IsNumber read.0
  plain : names ≡ false → read.0 < first_name
  grown : IsFront old read.2
  spelled : (whole : List ℕ) → IsFront read.2 whole → ctx_text read.0 ∷ item_pieces whole read.1 ≡ pieces
  within : (size : ℕ) → length read.2 ≤ size → IsItemWithin most size read.1
  text : length old + read.1.text.len ≤ length read.2

one_item_ok : (names : Bool) (most : ℕ) (pool : List ℕ) (pieces : List (List ℕ)) (read : ℕ × Item × List ℕ) → one_item names most pool pieces ≡ Ok read
    → IsOne names most pool read pieces
unfolding one_item
one_item_ok names most pool pieces read e =
    let counted = exactly_ok 3 pieces _ read e in
    next_ok (ctx names) pieces _ read _
    (λ p1 context r1 cut1 read1 e.
    let found = step_ok (item most pool r1) _ read e in
    let one = item_ok most pool r1 found.0 found.1 in
    let field1 = ctx_ok names p1 context read1 in
    let last : found.0.1 ≡ [] = no_piece found.0.1 (omega (arith, counted.0, ap length cut1, one.count)) in
    subst (λ (read : ℕ × Item × List ℕ). IsOne names most pool read pieces) (ok_same _ _ found.2) record {
      context = field1.within;
      plain = field1.plain;
      grown = one.grown;
      spelled = λ whole h.
          piece_is cut1 field1.spelled
          (ap (λ (rest : List (List ℕ)). item_pieces whole found.0.0.0 ++ rest) (sym last) ∙ one.spelled whole h);
      within = one.within;
      text = one.text;
    })
    counted.1

-- ---- calls of one item

-- a call line that was read: the pool grew by the call's text at least, over each longer pool the line has
-- these pieces, and it is within its limits, whatever the plan's items and added contexts are. It adds no context,
-- and is on the context of a context line where no line does
pub record IsCall (names : Bool) (old new : List ℕ) (call : CallLine) (pieces : List (List ℕ)) : Type 0 where
  pub grown : IsFront old new
  pub spelled : (whole : List ℕ) (items : List Item) (added : List ContextLine) → IsFront new whole → call_pieces whole items added call ≡ pieces
  pub within : (items size : ℕ) → length new ≤ size → IsCallWithin items size call
  pub plain : names ≡ false → IsPlainCall call
  pub nameless : name_added call ≡ []
  pub text : (items : List Item) → length old + text_size items call ≤ length new

-- a call of one item, where the call's word, pieces and limits are those of the item
IsCall-one : (names : Bool) (most : ℕ) (old : List ℕ) (read : ℕ × Item × List ℕ) (pieces : List (List ℕ)) (word : List ℕ) (call : CallLine) → IsOne names most old read pieces
    → ((whole : List ℕ) (items : List Item) (added : List ContextLine) → call_pieces whole items added call ≡ word ∷ ctx_text read.0 ∷ item_pieces whole read.1)
    → ((items size : ℕ) → IsNumber read.0 × IsItemWithin most size read.1 → IsCallWithin items size call)
    → (read.0 < first_name → IsPlainCall call)
    → name_added call ≡ []
    → ((items : List Item) → text_size items call ≡ read.1.text.len)
    → IsCall names old read.2 call (word ∷ pieces)
IsCall-one names most old read pieces word call one spelled within plain nameless text = record {
  grown = one.grown;
  spelled = λ whole items added h. spelled whole items added ∙ ap (λ (pieces : List (List ℕ)). word ∷ pieces) (one.spelled whole h);
  within = λ items size long. within items size (one.context, one.within size long);
  plain = λ none. plain (one.plain none);
  nameless = nameless;
  text = λ items. omega (arith, text items, one.text);
}

pub seal_ok : (names : Bool) (pool : List ℕ) (pieces : List (List ℕ)) (read : CallLine × List ℕ) → seal names pool pieces ≡ Ok read
    → IsCall names pool read.1 read.0 (codes "seal" ∷ pieces)
seal_ok names pool pieces read e =
    let found = step_ok (one_item names most_plaintext pool pieces) _ read e in
    subst (λ (read : CallLine × List ℕ). IsCall names pool read.1 read.0 (codes "seal" ∷ pieces)) (ok_same _ _ found.2)
    (IsCall-one names most_plaintext pool found.0 pieces (codes "seal") (Seal found.0.0 found.0.1) (one_item_ok names most_plaintext pool pieces found.0 found.1) (λ whole items added. refl) (λ items size h. h) (λ h. h) refl (λ items. refl))

pub unseal_ok : (names : Bool) (pool : List ℕ) (pieces : List (List ℕ)) (read : CallLine × List ℕ) → unseal names pool pieces ≡ Ok read
    → IsCall names pool read.1 read.0 (codes "unseal" ∷ pieces)
unseal_ok names pool pieces read e =
    let found = step_ok (one_item names most_ciphertext pool pieces) _ read e in
    subst (λ (read : CallLine × List ℕ). IsCall names pool read.1 read.0 (codes "unseal" ∷ pieces)) (ok_same _ _ found.2)
    (IsCall-one names most_ciphertext pool found.0 pieces (codes "unseal") (Unseal found.0.0 found.0.1) (one_item_ok names most_ciphertext pool pieces found.0 found.1) (λ whole items added. refl) (λ items size h. h) (λ h. h) refl (λ items. refl))

pub export_ok : (names : Bool) (pool : List ℕ) (pieces : List (List ℕ)) (read : CallLine × List ℕ) → export names pool pieces ≡ Ok read
    → IsCall names pool read.1 read.0 (codes "export" ∷ pieces)
unfolding export
export_ok names pool pieces read e =
    let counted = exactly_ok 3 pieces _ read e in
    next_ok (ctx names) pieces _ read _
    (λ p1 context r1 cut1 read1 e.
    next_ok (bytes most_field pool) r1 _ read _
    (λ p2 exporter r2 cut2 read2 e.
    next_ok (number 0 65535) r2 _ read _
    (λ p3 size r3 cut3 read3 e.
    let field1 = ctx_ok names p1 context read1 in
    let field2 = bytes_ok most_field pool p2 exporter read2 in
    let field3 = number_ok 0 65535 p3 size (lit< tt) read3 in
    let few = front_length pool exporter.pool field2.grown in
    let last : r3 ≡ [] = no_piece r3 (omega (arith, counted.0, ap length cut1, ap length cut2, ap length cut3)) in
    subst (λ (read : CallLine × List ℕ). IsCall names pool read.1 read.0 (codes "export" ∷ pieces)) (ok_same _ _ e) record {
      grown = field2.grown;
      spelled = λ whole items added h.
          ap (λ (pieces : List (List ℕ)). codes "export" ∷ pieces)
          (piece_is cut1 field1.spelled (piece_is cut2 (field2.spelled whole h) (piece_is cut3 field3.spelled (sym last))));
      within = λ items longer long. (field1.within, field_within most_field pool p2 exporter longer field2 long, field3.most);
      plain = field1.plain;
      nameless = refl;
      text = λ items. omega (arith, few);
    })
    e) e)
    counted.1

-- ---- a call of several items

-- pairs that were read behind these items
record IsPairs (old : List ℕ) (before : List Item) (read : List Item × List ℕ) (pieces : List (List ℕ)) : Type 0 where
  more : List Item
  items : read.0 ≡ before ++ more
  grown : IsFront old read.1
  spelled : (whole : List ℕ) → IsFront read.1 whole → flat_map (item_pieces whole) more ≡ pieces
  within : (size : ℕ) → length read.1 ≤ size → All (IsItemWithin most_ciphertext size) more
  text : length old + sum_by (λ item. item.text.len) more ≤ length read.1
  count : 2 * length more ≡ length pieces

pairs_ok : (pool : List ℕ) (before : List Item) (pieces : List (List ℕ)) (read : List Item × List ℕ) → pairs pool before pieces ≡ Ok read → IsPairs pool before read pieces
unfolding pairs
pairs_ok pool before [] read e =
    subst (λ (read : List Item × List ℕ). IsPairs pool before read []) (ok_same _ _ e) record {
      more = [];
      items = sym (append-nil before);
      grown = IsFront-same pool;
      spelled = λ whole h. refl;
      within = λ size long. All-nil (IsItemWithin most_ciphertext size);
      text = omega arith;
      count = refl;
    }
pairs_ok pool before (piece ∷ []) read e = absurd cc
pairs_ok pool before (aad ∷ text ∷ rest) read e =
    let found = step_ok (item most_ciphertext pool (aad ∷ text ∷ [])) _ read e in
    let one = item_ok most_ciphertext pool (aad ∷ text ∷ []) found.0 found.1 in
    let first = found.0.0.0 in
    let after = found.0.0.1 in
    let others = pairs_ok after (before ++ first ∷ []) rest read found.2 in
    let alone : found.0.1 ≡ [] = no_piece found.0.1 (omega (arith, one.count)) in
    let few = front_length after read.1 others.grown in
    record {
      more = first ∷ others.more;
      items = others.items ∙ append_assoc before (first ∷ []) others.more;
      grown = IsFront-then pool after read.1 one.grown others.grown;
      spelled = λ whole h.
          let here = one.spelled whole (IsFront-then after read.1 whole others.grown h) in
          let two : item_pieces whole first ≡ aad ∷ text ∷ [] = ap (λ (rest : List (List ℕ)). item_pieces whole first ++ rest) (sym alone) ∙ here in
          ap (λ (pieces : List (List ℕ)). pieces ++ flat_map (item_pieces whole) others.more) two
          ∙ ap (λ (pieces : List (List ℕ)). aad ∷ text ∷ pieces) (others.spelled whole h);
      within = λ size long. All-cons (IsItemWithin most_ciphertext size) first others.more (one.within size (omega (arith, few, long))) (others.within size long);
      text = omega (arith, one.text, others.text, sum_by-cons (λ (item : Item). item.text.len) first others.more);
      count = omega (arith, others.count);
    }

-- `unsealall CTX AAD CT ..`
pub record IsSeveral (names : Bool) (old : List ℕ) (read : ℕ × List Item × List ℕ) (pieces : List (List ℕ)) : Type 0 where
  pub context : IsNumber read.0
  pub plain : names ≡ false → read.0 < first_name
  pub grown : IsFront old read.2
  pub spelled : (whole : List ℕ) → IsFront read.2 whole → ctx_text read.0 ∷ flat_map (item_pieces whole) read.1 ≡ pieces
  pub within : (size : ℕ) → length read.2 ≤ size → All (IsItemWithin most_ciphertext size) read.1
  pub text : length old + sum_by (λ item. item.text.len) read.1 ≤ length read.2
  pub some : 1 ≤ length read.1

pub unseal_all_ok : (names : Bool) (pool : List ℕ) (pieces : List (List ℕ)) (read : ℕ × List Item × List ℕ) → unseal_all names pool pieces ≡ Ok read
    → IsSeveral names pool read pieces
unfolding unseal_all
unseal_all_ok names pool pieces read e =
    let counted = test_ok (nat_lt 1 (length pieces) && (length pieces % 2 == 1)) pieces Fields _ read e in
    let many : 1 < length pieces = ltb-true 1 (length pieces) (and_parts _ _ counted.0).0 in
    next_ok (ctx names) pieces _ read _
    (λ p1 context r1 cut1 read1 e.
    let found = step_ok (pairs pool [] r1) _ read e in
    let all = pairs_ok pool [] r1 found.0 found.1 in
    let field1 = ctx_ok names p1 context read1 in
    let IsRead : List Item → Type 0 = λ items. IsSeveral names pool (context, items, found.0.1) pieces in
    subst (λ (read : ℕ × List Item × List ℕ). IsSeveral names pool read pieces) (ok_same _ _ found.2)
    (subst IsRead (sym all.items) record {
      context = field1.within;
      plain = field1.plain;
      grown = all.grown;
      spelled = λ whole h. piece_is cut1 field1.spelled (all.spelled whole h);
      within = all.within;
      text = all.text;
      some = omega (arith, many, all.count, ap length cut1);
    }))
    counted.1

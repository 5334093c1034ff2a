-- A text that was read is the text of its plan: each line adds its own text to that of the plan, and keeps the
-- plan within its limits.
use Rattle.std.proofs.Common.{◌≡◌, ℕ, ◌+◌, ◌<◌, ◌≤◌, ◌==◌, ◌&&◌, ◌||◌, not, nat_lt, Bool, true, false, List, [], ◌∷◌, ◌++◌, length, sum_by, codes, decimal, Option, Result, Ok, refl, sym, ap, subst, ◌∙◌, append_assoc, append-nil, arith}
use Rattle.std.specs.Prelude.{IsSome, is_some}
use Rattle.std.specs.List.{flat_map}
use Rattle.std.proofs.lemmas.Bool.{eqb-true, ltb-true, and_parts}
use Rattle.std.proofs.lemmas.List.{nil_from_length, length-append, length-take-le}
use Rattle.std.proofs.lemmas.List.Elements.{All-nil}
use Rattle.call_places.specs.declared.spans.Item.{Item}
use Rattle.field_text.specs.declared.reasons.Reason.{Reason}
use Rattle.field_text.specs.Cuts.{line_text}
use Rattle.field_text.proofs.Spellings.{ok_same, step_ok, next_ok, exactly_ok, IsFront, IsFront-same, IsFront-then}
use Rattle.field_text.proofs.SpelledLines.{IsSpelling, no_piece}
use Rattle.batch_plans.specs.declared.plan.Plan.{Plan}
use Rattle.batch_plans.specs.declared.plan.ContextLine.{ContextLine}
use Rattle.batch_plans.specs.declared.plan.CallLine.{CallLine}
use Rattle.batch_plans.specs.declared.plan.CallLine.TheVariants as calls
use Rattle.request_frames.specs.declared.key_words.KeyWord.{KeyWord}
use Rattle.request_frames.specs.KeyForms.{rand, key}
use Rattle.request_frames.specs.KeyText.{seed_text, key_text}
use Rattle.request_frames.proofs.SpelledKeyFields.{piece_is, front_length}
use Rattle.request_frames.proofs.SpelledKeys.{rand_ok, key_ok}
use Rattle.request_frames.proofs.MoreLines.{last_more, before_none, texts_none, counted_ok, seed_given, no_seed}
use Rattle.request_frames.specs.declared.words.LineWord.{LineWord}
use Rattle.request_frames.specs.declared.words.LineWord.TheVariants.{Rand, Key, Context, Lane, Call}
use Rattle.request_frames.specs.declared.words.ContextWord.{ContextWord}
use Rattle.request_frames.specs.declared.words.CallWord.{CallWord}
use Rattle.request_frames.specs.declared.words.CallWord.TheVariants.{Seal, Unseal, UnsealAll, Export}
use Rattle.request_frames.specs.Words.{word_text, words_of, draws}
use Rattle.request_frames.specs.Forms.{share, context, name, seal, unseal, unseal_all, export}
use Rattle.request_frames.specs.Batch.{is_bare, takes_keys, may_stand, add_call, counted, with_rand, with_key, with_context, with_lane, with_one, with_several, with_call, with_line, batch_lines}
use Rattle.batch_plans.specs.Names.{line_count}
use Rattle.batch_plans.specs.Limits.{most_input, most_keys, most_contexts, most_lanes, most_opening, most_items, most_exported, items_of, size_of, items_from, all_items, all_sizes}
use Rattle.batch_plans.specs.Within.{text_size, IsPlain}
use Rattle.request_frames.specs.PlanText.{ctx_text, context_text, added_pieces, item_pieces, call_text, lane_text}
use Rattle.request_frames.specs.Added.{with_added, with_retired}
use Rattle.request_frames.specs.LivePlans.{added_contexts, IsLive}
use Rattle.request_frames.proofs.SpelledFields.{among_ok, name_ok}
use Rattle.request_frames.proofs.SpelledContexts.{context_ok, added_ok}
use Rattle.request_frames.proofs.SpelledCalls.{IsCall, seal_ok, unseal_ok, export_ok, unseal_all_ok}
use Rattle.request_frames.proofs.AddedContexts.{Begins, Begins-same, Begins-then, IsOrdered, line_contexts, all_lines, line_begins, line_live, longer, lines_stay, added_begins, named_here, names_lane, call_live, added_live}
use Rattle.request_frames.proofs.Growth as growth

-- the lines of a plan behind the first, with spans of this pool, these items and these added contexts
abbrev pub body : List ℕ → List Item → List ContextLine → Plan → List ℕ
body pool items extra plan =
    seed_text plan.seed ++ flat_map (key_text pool) plan.keys ++ flat_map (context_text pool) (line_contexts plan) ++ flat_map (lane_text pool items extra) plan.lanes

-- A line adds its text at the end of the plan's lines, whatever the pool, the items and the added contexts grow to.
-- It keeps the plan within its limits; its contexts where no line adds any; and the names of those that lines add
pub record Adds (names : Bool) (plan new : Plan) (text : List ℕ) : Type 0 where
  pub version : new.version ≡ plan.version
  pub grown : IsFront plan.pool new.pool
  pub begins : Begins plan.items new.items
  pub ordered : IsOrdered plan → IsOrdered new
  pub goes_on : IsOrdered plan → Begins (added_contexts plan) (added_contexts new)
  pub added : IsOrdered plan → (whole : List ℕ) (items : List Item) (extra : List ContextLine) → IsFront new.pool whole → Begins new.items items
      → Begins (added_contexts new) extra → body whole items extra new ≡ body whole items extra plan ++ text
  pub built : length new.pool ≤ most_input → growth.IsBuilt plan → growth.IsBuilt new
  pub plain : names ≡ false → IsPlain plan → IsPlain new
  pub live : IsOrdered plan → IsLive plan → IsLive new

-- ---- one element more

-- of the context lines of a plan that has no context
lines_none : (whole : List ℕ) (plan : Plan) → (length plan.contexts == 0) ≡ true → flat_map (context_text whole) (line_contexts plan) ≡ []
lines_none whole plan none =
    let no_line : line_contexts plan ≡ [] = nil_from_length (line_contexts plan) (omega (arith, eqb-true (length plan.contexts) 0 none, length-take-le (line_count plan) plan.contexts)) in
    ap (flat_map (context_text whole)) no_line

-- a call in the last lane
calls_more : (whole : List ℕ) (items : List Item) (extra : List ContextLine) (lanes : List (List CallLine)) (call : CallLine) → 0 < length lanes
    → flat_map (lane_text whole items extra) (add_call lanes call) ≡ flat_map (lane_text whole items extra) lanes ++ call_text whole items extra call
calls_more whole items extra [] call some = absurd (omega arith)
calls_more whole items extra (lane ∷ []) call some =
    append-nil (lane_text whole items extra (lane ++ call ∷ []))
    ∙ last_more (codes "lane\n") (call_text whole items extra) lane call (call_text whole items extra call) refl
    ∙ ap (λ (front : List ℕ). front ++ call_text whole items extra call) (sym (append-nil (lane_text whole items extra lane)))
calls_more whole items extra (lane ∷ next ∷ more) call some =
    ap (λ (rest : List ℕ). lane_text whole items extra lane ++ rest) (calls_more whole items extra (next ∷ more) call (omega arith))
    ∙ sym (append_assoc (lane_text whole items extra lane) (flat_map (lane_text whole items extra) (next ∷ more)) (call_text whole items extra call))

-- ---- what each line adds

rand_adds : (names : Bool) (plan new : Plan) (pieces : List (List ℕ)) → is_bare plan ≡ true → with_rand plan pieces ≡ Ok new → Adds names plan new (line_text (codes "rand" ∷ pieces))
unfolding with_rand
rand_adds names plan new pieces bare e =
    let found = step_ok (rand pieces) _ new e in
    let parts = and_parts (not (is_some plan.seed) && (length plan.keys == 0)) (takes_keys plan) bare in
    let front = and_parts (not (is_some plan.seed)) (length plan.keys == 0) parts.0 in
    let places = and_parts (length plan.contexts == 0) (length plan.lanes == 0) parts.1 in
    let line = line_text (codes "rand" ∷ pieces) in
    subst (λ (new : Plan). Adds names plan new line) (ok_same _ _ found.2) record {
      version = refl;
      grown = IsFront-same plan.pool;
      begins = Begins-same plan.items;
      ordered = λ h. record { none = h.none; few = h.few };
      goes_on = λ h. Begins-same (added_contexts plan);
      added = λ order whole items extra h more behind.
          before_none _ _ _ (flat_map (lane_text whole items extra) plan.lanes) (texts_none (lane_text whole items extra) plan.lanes places.1)
          (before_none _ _ _ (flat_map (context_text whole) (line_contexts plan)) (lines_none whole plan places.0)
          (before_none _ _ _ (flat_map (key_text whole) plan.keys) (texts_none (key_text whole) plan.keys front.1)
          (ap (λ (pieces : List (List ℕ)). line_text (codes "rand" ∷ pieces)) (rand_ok pieces found.0 found.1)
          ∙ ap (λ (seed : Option (List ℕ)). seed_text seed ++ line) (sym (no_seed plan.seed front.0)))));
      built = λ small h. growth.with_seed plan found.0 (eqb-true (length plan.keys) 0 front.1) (eqb-true (length plan.contexts) 0 places.0) h;
      plain = λ stay h. record { added = h.added; calls = h.calls };
      live = λ order h. record { version = h.version; shared = h.shared; named = h.named };
    }

key_adds : (names : Bool) (word : KeyWord) (plan new : Plan) (pieces : List (List ℕ)) → takes_keys plan ≡ true → (draws (Key word) ≡ true → IsSome plan.seed) → with_key plan word pieces ≡ Ok new
    → Adds names plan new (line_text (word_text (Key word) ∷ pieces))
unfolding with_key
key_adds names word plan new pieces place given e =
    let found = step_ok (key word plan.pool pieces) _ new e in
    let count = counted_ok most_keys (length plan.keys + 1) _ new found.2 in
    let line = key_ok word plan.pool pieces found.0.0 found.0.1 found.1 in
    let places = and_parts (length plan.contexts == 0) (length plan.lanes == 0) place in
    let long = front_length plan.pool found.0.1 line.grown in
    subst (λ (new : Plan). Adds names plan new (line_text (word_text (Key word) ∷ pieces))) (ok_same _ _ count.1) record {
      version = refl;
      grown = line.grown;
      begins = Begins-same plan.items;
      ordered = λ h. record { none = h.none; few = h.few };
      goes_on = λ h. Begins-same (added_contexts plan);
      added = λ order whole items extra h more behind.
          let same : key_text whole found.0.0 ≡ line_text (word_text (Key word) ∷ pieces) = ap line_text (line.spelled whole h) in
          before_none _ _ _ (flat_map (lane_text whole items extra) plan.lanes) (texts_none (lane_text whole items extra) plan.lanes places.1)
          (before_none _ _ _ (flat_map (context_text whole) (line_contexts plan)) (lines_none whole plan places.0)
          (last_more (seed_text plan.seed) (key_text whole) plan.keys found.0.0 _ same));
      built = λ small h.
          growth.with_key (record plan { pool = found.0.1 }) found.0.0 count.0 (line.within plan.seed (length found.0.1) (omega arith) given)
          (growth.with_pool plan found.0.1 long small h);
      plain = λ stay h. record { added = h.added; calls = h.calls };
      live = λ order h. record { version = h.version; shared = h.shared; named = h.named };
    }

context_adds : (names : Bool) (word : ContextWord) (plan new : Plan) (pieces : List (List ℕ)) → (length plan.lanes == 0) ≡ true → (draws (Context word) ≡ true → IsSome plan.seed)
    → with_context plan word pieces ≡ Ok new → Adds names plan new (line_text (word_text (Context word) ∷ pieces))
unfolding with_context
context_adds names word plan new pieces place given e =
    let found = step_ok (context word plan.pool pieces) _ new e in
    let count = counted_ok most_contexts (length plan.contexts + 1) _ new found.2 in
    let line = context_ok word plan.pool pieces found.0.0 found.0.1 found.1 in
    let long = front_length plan.pool found.0.1 line.grown in
    let bare : length plan.lanes ≡ 0 = eqb-true (length plan.lanes) 0 place in
    let more_lines : Plan = record plan { pool = found.0.1; contexts = plan.contexts ++ found.0.0 ∷ [] } in
    subst (λ (new : Plan). Adds names plan new (line_text (word_text (Context word) ∷ pieces))) (ok_same _ _ count.1) record {
      version = refl;
      grown = line.grown;
      begins = Begins-same plan.items;
      ordered = λ h. record { none = h.none; few = omega (arith, h.few, length-append plan.contexts (found.0.0 ∷ [])) };
      goes_on = λ h. line_begins plan found.0.0 (h.none bare);
      added = λ order whole items extra h more behind.
          let same : context_text whole found.0.0 ≡ line_text (word_text (Context word) ∷ pieces) = ap line_text (line.spelled whole h) in
          let none = order.none bare in
          let front = seed_text plan.seed ++ flat_map (key_text whole) plan.keys in
          let texts : List ContextLine → List ℕ = λ lines. front ++ flat_map (context_text whole) lines in
          before_none _ _ _ (flat_map (lane_text whole items extra) plan.lanes) (texts_none (lane_text whole items extra) plan.lanes place)
          (ap texts (all_lines more_lines none) ∙ last_more front (context_text whole) plan.contexts found.0.0 _ same
          ∙ ap (λ (lines : List ContextLine). texts lines ++ line_text (word_text (Context word) ∷ pieces)) (sym (all_lines plan none)));
      built = λ small h.
          growth.with_context (record plan { pool = found.0.1 }) found.0.0 count.0 (line.within plan.seed (length found.0.1) (omega arith) given)
          (growth.with_pool plan found.0.1 long small h);
      plain = λ stay h. record { added = h.added; calls = h.calls };
      live = λ order h. line_live plan found.0.1 found.0.0 (order.none bare) h;
    }

-- the lines before the lanes
abbrev set_up : List ℕ → Plan → List ℕ
set_up pool plan = seed_text plan.seed ++ flat_map (key_text pool) plan.keys ++ flat_map (context_text pool) (line_contexts plan)

lane_adds : (names : Bool) (plan new : Plan) (pieces : List (List ℕ)) → with_lane plan pieces ≡ Ok new → Adds names plan new (line_text (codes "lane" ∷ pieces))
unfolding with_lane
lane_adds names plan new pieces e =
    let found = exactly_ok 0 pieces _ new e in
    let count = counted_ok most_lanes (length plan.lanes + 1) _ new found.1 in
    subst (λ (new : Plan). Adds names plan new (line_text (codes "lane" ∷ pieces))) (ok_same _ _ count.1) record {
      version = refl;
      grown = IsFront-same plan.pool;
      begins = Begins-same plan.items;
      ordered = λ h. record { none = λ none. absurd (omega (arith, none, length-append plan.lanes ([] ∷ []))); few = h.few };
      goes_on = λ h. Begins-same (added_contexts plan);
      added = λ order whole items extra h more behind.
          last_more (set_up whole plan) (lane_text whole items extra) plan.lanes [] _
          (ap (λ (pieces : List (List ℕ)). line_text (codes "lane" ∷ pieces)) (sym (no_piece pieces found.0)));
      built = λ small h. growth.with_lane plan count.0 h;
      plain = λ stay h. growth.plain_lane plan h;
      live = λ order h. record { version = h.version; shared = h.shared; named = names_lane plan.lanes ∙ h.named };
    }

-- a call whose counts were within their limits, in a plan with a longer pool and more items
record IsCounted (plan new : Plan) (call : CallLine) : Type 0 where
  items : all_items plan.lanes + items_of call ≤ most_items
  opening : items_of call ≤ most_opening
  sizes : all_sizes plan.lanes + size_of call ≤ most_exported
  is : record plan { lanes = add_call plan.lanes call } ≡ new

is_counted : (plan new : Plan) (call : CallLine) → counted plan call ≡ Ok new → IsCounted plan new call
unfolding counted
is_counted plan new call e =
    let opening = counted_ok most_opening (items_of call) _ new e in
    let items = counted_ok most_items (all_items plan.lanes + items_of call) _ new opening.1 in
    let sizes = counted_ok most_exported (all_sizes plan.lanes + size_of call) _ new items.1 in
    record { items = items.0; opening = opening.0; sizes = sizes.0; is = ok_same _ _ sizes.1 }

-- the text of a call in the last lane, behind the lines before the lanes
call_added : (whole : List ℕ) (items : List Item) (extra : List ContextLine) (plan : Plan) (call : CallLine) (line : List ℕ) → 0 < length plan.lanes → call_text whole items extra call ≡ line
    → set_up whole plan ++ flat_map (lane_text whole items extra) (add_call plan.lanes call) ≡ (set_up whole plan ++ flat_map (lane_text whole items extra) plan.lanes) ++ line
call_added whole items extra plan call line some same =
    ap (λ (lanes : List ℕ). set_up whole plan ++ lanes)
    (calls_more whole items extra plan.lanes call some ∙ ap (λ (line : List ℕ). flat_map (lane_text whole items extra) plan.lanes ++ line) same)
    ∙ sym (append_assoc (set_up whole plan) (flat_map (lane_text whole items extra) plan.lanes) line)

one_adds : (names : Bool) (plan new : Plan) (read : Result (CallLine × List ℕ) Reason) (pieces : List (List ℕ)) → nat_lt 0 (length plan.lanes) ≡ true
    → ((line : CallLine × List ℕ) → read ≡ Ok line → IsCall names plan.pool line.1 line.0 pieces) → with_one plan read ≡ Ok new
    → Adds names plan new (line_text pieces)
unfolding with_one
one_adds names plan new read pieces place reads e =
    let found = step_ok read _ new e in
    let call = found.0.0 in
    let pool = found.0.1 in
    let line = reads found.0 found.1 in
    let longer : Plan = record plan { pool = pool } in
    let count = is_counted longer new call found.2 in
    let some = ltb-true 0 (length plan.lanes) place in
    let long = front_length plan.pool pool line.grown in
    subst (λ (new : Plan). Adds names plan new (line_text pieces)) count.is record {
      version = refl;
      grown = line.grown;
      begins = Begins-same plan.items;
      ordered = λ h. record { none = λ none. h.none (omega (arith, none, growth.lanes_more plan.lanes call)); few = h.few };
      goes_on = λ h. Begins-same (added_contexts plan);
      added = λ order whole items extra h more behind. call_added whole items extra plan call _ some (ap line_text (line.spelled whole items extra h));
      built = λ small h.
          let same : plan.items ++ [] ≡ plan.items = append-nil plan.items in
          let built = growth.with_call longer [] call some count.items count.sizes (omega (arith, h.limits.texts, line.text (plan.items ++ []))) (omega arith)
          (All-nil _) (line.within (length (plan.items ++ [])) (length pool) (omega arith)) (growth.with_pool plan pool long small h) in
          subst (λ (items : List Item). growth.IsBuilt (record longer { items = items; lanes = add_call plan.lanes call })) same built;
      plain = λ stay h. growth.plain_call plan pool plan.items call (line.plain stay) h;
      live = λ order h. record { version = h.version; shared = h.shared; named = call_live plan call some line.nameless h };
    }

several_adds : (names : Bool) (plan new : Plan) (pieces : List (List ℕ)) → nat_lt 0 (length plan.lanes) ≡ true → with_several names plan pieces ≡ Ok new
    → Adds names plan new (line_text (codes "unsealall" ∷ pieces))
unfolding with_several
several_adds names plan new pieces place e =
    let found = step_ok (unseal_all names plan.pool pieces) _ new e in
    let more = found.0.1 in
    let pool = found.0.2 in
    let line = unseal_all_ok names plan.pool pieces found.0 found.1 in
    let call : CallLine = calls.UnsealAll found.0.0 (length plan.items) (length more) in
    let longer : Plan = record plan { pool = pool } in
    let wider : Plan = record longer { items = plan.items ++ more } in
    let count = is_counted wider new call found.2 in
    let some = ltb-true 0 (length plan.lanes) place in
    let long = front_length plan.pool pool line.grown in
    subst (λ (new : Plan). Adds names plan new (line_text (codes "unsealall" ∷ pieces))) count.is record {
      version = refl;
      grown = line.grown;
      begins = record { rest = more; parts = refl };
      ordered = λ h. record { none = λ none. h.none (omega (arith, none, growth.lanes_more plan.lanes call)); few = h.few };
      goes_on = λ h. Begins-same (added_contexts plan);
      added = λ order whole items extra h behind rest.
          let own : items_from items (length plan.items) (length more) ≡ more =
          ap (λ (items : List Item). items_from items (length plan.items) (length more)) behind.parts ∙ growth.items_own plan.items more behind.rest in
          let here : ctx_text found.0.0 ∷ flat_map (item_pieces whole) (items_from items (length plan.items) (length more)) ≡ pieces =
          ap (λ (items : List Item). ctx_text found.0.0 ∷ flat_map (item_pieces whole) items) own ∙ line.spelled whole h in
          call_added whole items extra plan call _ some (ap (λ (pieces : List (List ℕ)). line_text (codes "unsealall" ∷ pieces)) here);
      built = λ small h.
          let own : items_from (plan.items ++ more) (length plan.items) (length more) ≡ more =
          ap (λ (items : List Item). items_from items (length plan.items) (length more)) (sym (append-nil (plan.items ++ more))) ∙ growth.items_own plan.items more [] in
          let text : text_size (plan.items ++ more) call ≡ sum_by (λ item. item.text.len) more = ap (λ (items : List Item). sum_by (λ (item : Item). item.text.len) items) own in
          growth.with_call longer more call some count.items count.sizes (omega (arith, h.limits.texts, line.text, text)) (omega arith)
          (line.within (length pool) (omega arith))
          (line.context, line.some, count.opening, omega (arith, length-append plan.items more)) (growth.with_pool plan pool long small h);
      plain = λ stay h. growth.plain_call plan pool (plan.items ++ more) call (line.plain stay) h;
      live = λ order h. record { version = h.version; shared = h.shared; named = call_live plan call some refl h };
    }

call_adds : (names : Bool) (word : CallWord) (plan new : Plan) (pieces : List (List ℕ)) → nat_lt 0 (length plan.lanes) ≡ true → with_call names plan word pieces ≡ Ok new
    → Adds names plan new (line_text (word_text (Call word) ∷ pieces))
call_adds names Seal plan new pieces place e = one_adds names plan new (seal names plan.pool pieces) _ place (λ line read. seal_ok names plan.pool pieces line read) e
call_adds names Unseal plan new pieces place e = one_adds names plan new (unseal names plan.pool pieces) _ place (λ line read. unseal_ok names plan.pool pieces line read) e
call_adds names UnsealAll plan new pieces place e = several_adds names plan new pieces place e
call_adds names Export plan new pieces place e = one_adds names plan new (export names plan.pool pieces) _ place (λ line read. export_ok names plan.pool pieces line read) e

-- ---- any line

pub line_adds : (names : Bool) (word : LineWord) (plan new : Plan) (pieces : List (List ℕ)) → may_stand word plan ≡ true → with_line names plan word pieces ≡ Ok new
    → Adds names plan new (line_text (word_text word ∷ pieces))
line_adds names Rand plan new pieces stands e = rand_adds names plan new pieces (and_parts (is_bare plan) true stands).0 e
line_adds names (Key word) plan new pieces stands e =
    let parts = and_parts (takes_keys plan) (not (draws (Key word)) || is_some plan.seed) stands in
    key_adds names word plan new pieces parts.0 (seed_given (draws (Key word)) plan.seed parts.1) e
line_adds names (Context word) plan new pieces stands e =
    let parts = and_parts (length plan.lanes == 0) (not (draws (Context word)) || is_some plan.seed) stands in
    context_adds names word plan new pieces parts.0 (seed_given (draws (Context word)) plan.seed parts.1) e
line_adds names Lane plan new pieces stands e = lane_adds names plan new pieces e
line_adds names (Call word) plan new pieces stands e = call_adds names word plan new pieces (and_parts (nat_lt 0 (length plan.lanes)) true stands).0 e

-- ---- lines that add and retire contexts

pub added_adds : (plan new : Plan) (pieces : List (List ℕ)) → nat_lt 0 (length plan.lanes) ≡ true → with_added plan pieces ≡ Ok new
    → Adds true plan new (line_text (codes "add" ∷ pieces))
unfolding with_added
added_adds plan new pieces place e =
    let found = step_ok (share plan.pool pieces) _ new e in
    let context = found.0.0 in
    let pool = found.0.1 in
    let counts = counted_ok most_contexts (length plan.contexts + 1) _ new found.2 in
    let line = added_ok plan.pool pieces context pool found.1 in
    let call : CallLine = calls.Add plan.added in
    let more = longer plan pool context in
    let count = is_counted more new call counts.1 in
    let some = ltb-true 0 (length plan.lanes) place in
    let long = front_length plan.pool pool line.grown in
    subst (λ (new : Plan). Adds true plan new (line_text (codes "add" ∷ pieces))) count.is record {
      version = refl;
      grown = line.grown;
      begins = Begins-same plan.items;
      ordered = λ h. record {
        none = λ none. absurd (omega (arith, none, some, growth.lanes_more plan.lanes call));
        few = omega (arith, h.few, length-append plan.contexts (context ∷ []));
      };
      goes_on = λ h. added_begins plan pool context;
      added = λ order whole items extra h begins behind.
          let here : call_text whole items extra call ≡ line_text (codes "add" ∷ pieces) =
          ap (λ (line : Option ContextLine). line_text (added_pieces whole line)) (named_here plan pool context order extra behind) ∙ ap line_text (line.spelled whole h) in
          let lanes : List ℕ = flat_map (lane_text whole items extra) (add_call plan.lanes call) in
          let keys = seed_text plan.seed ++ flat_map (key_text whole) plan.keys in
          ap (λ (lines : List ContextLine). (keys ++ flat_map (context_text whole) lines) ++ lanes) (lines_stay plan pool context)
          ∙ call_added whole items extra plan call _ some here;
      built = λ small h.
          let same : plan.items ++ [] ≡ plan.items = append-nil plan.items in
          let wide = growth.with_pool plan pool long small h in
          let wider = growth.with_added (record plan { pool = pool }) context counts.0 (line.within plan.seed (length pool) (omega arith)) wide in
          let built = growth.with_call more [] call some count.items count.sizes (omega (arith, wider.limits.texts)) (omega arith)
          (All-nil _) (omega (arith, h.limits.added, h.limits.contexts)) wider in
          subst (λ (items : List Item). growth.IsBuilt (record more { items = items; lanes = add_call plan.lanes call })) same built;
      plain = λ stay h. absurd cc;
      live = λ order h. added_live plan pool context some line.shared h;
    }

pub retired_adds : (plan new : Plan) (pieces : List (List ℕ)) → nat_lt 0 (length plan.lanes) ≡ true → with_retired plan pieces ≡ Ok new
    → Adds true plan new (line_text (codes "retire" ∷ pieces))
unfolding with_retired
retired_adds plan new pieces place e =
    let counted = exactly_ok 1 pieces _ new e in
    next_ok name pieces _ new _
    (λ piece value rest cut read e.
    let field = name_ok piece value read in
    let last : rest ≡ [] = no_piece rest (omega (arith, counted.0, ap length cut)) in
    let line : (codes "+" ++ decimal value) ∷ [] ≡ pieces = piece_is cut field.spelled (sym last) in
    let call : CallLine = calls.Retire value in
    let count = is_counted plan new call e in
    let some = ltb-true 0 (length plan.lanes) place in
    subst (λ (new : Plan). Adds true plan new (line_text (codes "retire" ∷ pieces))) count.is record {
      version = refl;
      grown = IsFront-same plan.pool;
      begins = Begins-same plan.items;
      ordered = λ h. record { none = λ none. h.none (omega (arith, none, growth.lanes_more plan.lanes call)); few = h.few };
      goes_on = λ h. Begins-same (added_contexts plan);
      added = λ order whole items extra h begins behind.
          call_added whole items extra plan call _ some (ap (λ (pieces : List (List ℕ)). line_text (codes "retire" ∷ pieces)) line);
      built = λ small h.
          let same : plan.items ++ [] ≡ plan.items = append-nil plan.items in
          let built = growth.with_call plan [] call some count.items count.sizes (omega (arith, h.limits.texts)) (omega arith) (All-nil _) field.low h in
          subst (λ (items : List Item). growth.IsBuilt (record plan { items = items; lanes = add_call plan.lanes call })) same built;
      plain = λ stay h. absurd cc;
      live = λ order h. record { version = h.version; shared = h.shared; named = call_live plan call some refl h };
    })
    counted.1

-- ---- lines after a line

pub adds_then : (names : Bool) (plan new final : Plan) (line text : List ℕ) → Adds names plan new line → Adds names new final text → Adds names plan final (line ++ text)
adds_then names plan new final line text first more = record {
  version = more.version ∙ first.version;
  grown = IsFront-then plan.pool new.pool final.pool first.grown more.grown;
  begins = Begins-then plan.items new.items final.items first.begins more.begins;
  ordered = λ h. more.ordered (first.ordered h);
  goes_on = λ h. Begins-then (added_contexts plan) (added_contexts new) (added_contexts final) (first.goes_on h) (more.goes_on (first.ordered h));
  added = λ order whole items extra h behind rest.
      let later = first.ordered order in
      more.added later whole items extra h behind rest
      ∙ ap (λ (front : List ℕ). front ++ text)
      (first.added order whole items extra (IsFront-then new.pool final.pool whole more.grown h) (Begins-then new.items final.items items more.begins behind)
      (Begins-then (added_contexts new) (added_contexts final) extra (more.goes_on later) rest))
      ∙ append_assoc (body whole items extra plan) line text;
  built = λ small h. more.built small (first.built (omega (arith, small, front_length new.pool final.pool more.grown)) h);
  plain = λ stay h. more.plain stay (first.plain stay h);
  live = λ order h. more.live (first.ordered order) (first.live order h);
}

-- no line
pub adds_nothing : (names : Bool) (plan : Plan) → Adds names plan plan []
adds_nothing names plan = record {
  version = refl;
  grown = IsFront-same plan.pool;
  begins = Begins-same plan.items;
  ordered = λ h. h;
  goes_on = λ h. Begins-same (added_contexts plan);
  added = λ order whole items extra h behind rest. sym (append-nil (body whole items extra plan));
  built = λ small h. h;
  plain = λ stay h. h;
  live = λ order h. h;
}

pub spelling : IsSpelling batch_lines (Adds false)
spelling = record {
  none = adds_nothing false;
  line = λ word plan new final piece pieces text named stands read more.
      adds_then false plan new final (line_text (piece ∷ pieces)) text
      (subst (λ (piece : List ℕ). Adds false plan new (line_text (piece ∷ pieces))) (among_ok (words_of plan.version) piece word named) (line_adds false word plan new pieces stands read)) more;
}

-- A plan has one set-up.
use Rattle.std.proofs.Common.{◌≡◌, ◌<◌, ◌≤◌, ℕ, zero, suc, List, [], ◌∷◌, ◌++◌, length, take, get_or, Option, Some, refl, sym, ap, subst, ◌∙◌, inl, inr, arith}
use Rattle.std.specs.Prelude.{slice_get}
use Rattle.std.proofs.lemmas.Bool.{cases_lt}
use Rattle.std.proofs.lemmas.List.{take_all}
use Rattle.std.proofs.lemmas.Option.{slice_get-get_or}
use Rattle.std.proofs.Math.Seq.{take-suc}
use Rattle.ring_core.specs.Sets.{Set, sntrup761, sntrup857}
use Rattle.sntrup_core.specs.Keys.{FindsNoInverse, IsExhausted}
use Rattle.sntrup_core.proofs.Draws.{finds_no_end}
use Rattle.call_places.specs.Spans.{span_bytes}
use Rattle.hpke_context.specs.Contexts.{ContextView}
use Rattle.batch_plans.specs.declared.plan.Plan.{Plan}
use Rattle.batch_plans.specs.declared.plan.KeySource.{KeySource}
use Rattle.batch_plans.specs.declared.plan.KeySource.TheVariants as sources
use Rattle.batch_plans.specs.declared.plan.KeySet.{KeySet}
use Rattle.batch_plans.specs.declared.plan.KeySet.TheVariants.{Sntrup761, Sntrup857}
use Rattle.batch_plans.specs.KeyLines.{set_of, source_of}
use Rattle.batch_plans.specs.declared.replies.KeyReply.{KeyReply}
use Rattle.batch_plans.specs.declared.replies.KeyReply.TheVariants.{Generated, Secret, Peer, Refused}
use Rattle.batch_plans.specs.declared.replies.KeyRefusal.TheVariants.{Exhausted, NoInverse, Length, Form}
use Rattle.batch_plans.specs.declared.replies.ContextReply.{ContextReply}
use Rattle.batch_plans.specs.declared.replies.ContextReply.TheVariants.{Shared}
use Rattle.context_table.specs.Streams.{key_words}
use Rattle.context_table.specs.Keys.{kem_with, IsPairReply, IsSecretReply, IsPeerReply, IsSourceReply, AreKeyReplies}
use Rattle.context_table.specs.Contexts.{outcome, reply_of, slot_of, AreOutcomes}
use Rattle.context_table.specs.Laws.{OneKeySetUp, OneSetUp}
use Rattle.context_table.proofs.Lists.{same_lists, some_within}
use Rattle.context_table.proofs.OneKey.{one_pair}

-- ---- keys

fails_once : (set : Set) (word : ℕ → ℕ) (place : ℕ) → FindsNoInverse set word place
    → IsExhausted set word place → ⊥
unfolding FindsNoInverse
fails_once set word place none exhausted = finds_no_end set word place none.0 none.1 exhausted

one_pair_reply : (set : Set) (word : ℕ → ℕ) → 2 ≤ set.p → 2 < set.q
    → (a b : KeyReply) → IsPairReply set word a → IsPairReply set word b → a ≡ b
one_pair_reply set word two least (Generated pk sk) (Generated pk' sk') x y =
    let same = one_pair set word 0 x.1.0 y.1.0 pk sk pk' sk' two least x.0 x.1.1 y.1.1 x.1.2 y.1.2
    in
    ap (λ t. Generated t sk) same.0 ∙ ap (Generated pk') same.1
one_pair_reply set word two least (Generated pk sk) (Refused Exhausted) x y =
    absurd (finds_no_end set word 0 x.1.0 x.1.1 y)
one_pair_reply set word two least (Generated pk sk) (Refused NoInverse) x y = absurd (x.0 y)
one_pair_reply set word two least (Refused Exhausted) (Generated pk sk) x y =
    absurd (finds_no_end set word 0 y.1.0 y.1.1 x)
one_pair_reply set word two least (Refused NoInverse) (Generated pk sk) x y = absurd (y.0 x)
one_pair_reply set word two least (Refused Exhausted) (Refused Exhausted) x y = refl
one_pair_reply set word two least (Refused Exhausted) (Refused NoInverse) x y =
    absurd (fails_once set word 0 y x)
one_pair_reply set word two least (Refused NoInverse) (Refused Exhausted) x y =
    absurd (fails_once set word 0 x y)
one_pair_reply set word two least (Refused NoInverse) (Refused NoInverse) x y = refl
one_pair_reply set word two least (Secret pk) b x y = absurd x
one_pair_reply set word two least Peer b x y = absurd x
one_pair_reply set word two least (Refused Length) b x y = absurd x
one_pair_reply set word two least (Refused Form) b x y = absurd x
one_pair_reply set word two least a (Secret pk) x y = absurd y
one_pair_reply set word two least a Peer x y = absurd y
one_pair_reply set word two least a (Refused Length) x y = absurd y
one_pair_reply set word two least a (Refused Form) x y = absurd y

one_secret_reply : (set : Set) (bytes : List ℕ) (a b : KeyReply) → IsSecretReply set bytes a
    → IsSecretReply set bytes b → a ≡ b
one_secret_reply set bytes (Secret pk) (Secret pk') x y = ap Secret (x.2 ∙ sym y.2)
one_secret_reply set bytes (Secret pk) (Refused Length) x y = absurd (y x.0)
one_secret_reply set bytes (Secret pk) (Refused Form) x y = absurd (x.1 y.1)
one_secret_reply set bytes (Refused Length) (Secret pk) x y = absurd (x y.0)
one_secret_reply set bytes (Refused Form) (Secret pk) x y = absurd (y.1 x.1)
one_secret_reply set bytes (Refused Length) (Refused Length) x y = refl
one_secret_reply set bytes (Refused Length) (Refused Form) x y = absurd (x y.0)
one_secret_reply set bytes (Refused Form) (Refused Length) x y = absurd (y x.0)
one_secret_reply set bytes (Refused Form) (Refused Form) x y = refl
one_secret_reply set bytes (Generated pk sk) b x y = absurd x
one_secret_reply set bytes Peer b x y = absurd x
one_secret_reply set bytes (Refused Exhausted) b x y = absurd x
one_secret_reply set bytes (Refused NoInverse) b x y = absurd x
one_secret_reply set bytes a (Generated pk sk) x y = absurd y
one_secret_reply set bytes a Peer x y = absurd y
one_secret_reply set bytes a (Refused Exhausted) x y = absurd y
one_secret_reply set bytes a (Refused NoInverse) x y = absurd y

one_peer_reply : (set : Set) (bytes : List ℕ) (a b : KeyReply) → IsPeerReply set bytes a
    → IsPeerReply set bytes b → a ≡ b
one_peer_reply set bytes Peer Peer x y = refl
one_peer_reply set bytes Peer (Refused Length) x y = absurd (y x)
one_peer_reply set bytes (Refused Length) Peer x y = absurd (x y)
one_peer_reply set bytes (Refused Length) (Refused Length) x y = refl
one_peer_reply set bytes (Generated pk sk) b x y = absurd x
one_peer_reply set bytes (Secret pk) b x y = absurd x
one_peer_reply set bytes (Refused Exhausted) b x y = absurd x
one_peer_reply set bytes (Refused NoInverse) b x y = absurd x
one_peer_reply set bytes (Refused Form) b x y = absurd x
one_peer_reply set bytes a (Generated pk sk) x y = absurd y
one_peer_reply set bytes a (Secret pk) x y = absurd y
one_peer_reply set bytes a (Refused Exhausted) x y = absurd y
one_peer_reply set bytes a (Refused NoInverse) x y = absurd y
one_peer_reply set bytes a (Refused Form) x y = absurd y

one_key_reply : (plan : Plan) (k : ℕ) (set : KeySet) (source : KeySource) (a b : KeyReply)
    → IsSourceReply plan k (kem_with set).set source a
    → IsSourceReply plan k (kem_with set).set source b → a ≡ b
one_key_reply plan k Sntrup761 sources.Generate a b x y =
    one_pair_reply sntrup761 (key_words plan k) (omega arith) (omega arith) a b x y
one_key_reply plan k Sntrup857 sources.Generate a b x y =
    one_pair_reply sntrup857 (key_words plan k) (omega arith) (omega arith) a b x y
one_key_reply plan k set (sources.Secret bytes) a b x y =
    one_secret_reply (kem_with set).set (span_bytes plan.pool bytes) a b x y
one_key_reply plan k set (sources.Peer bytes) a b x y =
    one_peer_reply (kem_with set).set (span_bytes plan.pool bytes) a b x y

one_keys : (plan : Plan) (keys keys' : List KeyReply) → length keys ≡ length plan.keys
    → length keys' ≡ length plan.keys
    → AreKeyReplies plan keys → AreKeyReplies plan keys' → keys ≡ keys'
one_keys plan keys keys' count count' is is' =
    same_lists keys keys' (count ∙ sym count') (λ k a b ea eb.
    let line = some_within keys plan.keys k a count ea in
    one_key_reply plan k (set_of line.0) (source_of line.0) a b (is.each k line.0 a line.1 ea)
    (is'.each k line.0 b line.1 eb))

-- ---- contexts

-- two lists of replies and of slots with the outcomes of one plan
record Both (plan : Plan) (keys : List KeyReply) (replies replies' : List ContextReply)
    (standing standing' : List (Option ContextView)) : Type 0 where
  count : length replies ≡ length plan.contexts
  count' : length replies' ≡ length plan.contexts
  slots : length standing ≡ length plan.contexts
  slots' : length standing' ≡ length plan.contexts
  is : AreOutcomes plan keys replies standing
  is' : AreOutcomes plan keys replies' standing'

-- a line whose earlier lines have the same replies
one_outcome : (plan : Plan) (keys : List KeyReply) (replies replies' : List ContextReply)
    (standing standing' : List (Option ContextView))
    → Both plan keys replies replies' standing standing'
    → (n : ℕ) (reply reply' : ContextReply) (slot slot' : Option ContextView)
    → take n replies ≡ take n replies'
    → slice_get replies n ≡ Some reply → slice_get replies' n ≡ Some reply'
    → slice_get standing n ≡ Some slot → slice_get standing' n ≡ Some slot'
    → (reply ≡ reply') × (slot ≡ slot')
one_outcome plan keys replies replies' standing standing' both n reply reply' slot slot' same er er'
    es es' =
    let line = some_within replies plan.contexts n reply both.count er in
    let a = both.is.each n line.0 reply slot line.1 er es in
    let b = both.is'.each n line.0 reply' slot' line.1 er' es' in
    let became : outcome plan keys (take n replies) n line.0 ≡ outcome plan keys
    (take n replies') n line.0 =
    ap (λ (rs : List ContextReply). outcome plan keys rs n line.0) same in (
      a.reply_is ∙ ap reply_of became ∙ sym b.reply_is,
      a.slot_is ∙ ap slot_of became
          ∙ sym b.slot_is,
    )

-- the replies to the first lines
one_replies : (plan : Plan) (keys : List KeyReply) (replies replies' : List ContextReply)
    (standing standing' : List (Option ContextView))
    → Both plan keys replies replies' standing standing' → (n : ℕ)
    → take n replies ≡ take n replies'
one_replies plan keys replies replies' standing standing' both zero = refl
one_replies plan keys replies replies' standing standing' both (suc n) =
    let before : take n replies ≡ take n replies' =
    one_replies plan keys replies replies' standing standing' both n in
    elim (cases_lt n (length replies)) [
      | inl within ↦ (
          let x = get_or replies n Shared in
          let y = get_or replies' n Shared in
          let within' : n < length replies' = omega (arith, both.count, both.count') in
          let er : slice_get replies n ≡ Some x = slice_get-get_or replies n Shared within in
          let er' : slice_get replies' n ≡ Some y = slice_get-get_or replies' n Shared within' in
          let es = some_within replies standing n x (both.count ∙ sym both.slots) er in
          let es' = some_within replies' standing' n y (both.count' ∙ sym both.slots') er' in
          let same : x ≡ y = (one_outcome plan keys replies replies' standing standing' both n x y
          es.0 es'.0 before er er' es.1 es'.1).0 in
          take-suc replies n Shared within
          ∙ ap (λ (rs : List ContextReply). rs ++ x ∷ []) before
          ∙ ap (λ (r : ContextReply). take n replies' ++ r ∷ []) same
          ∙ sym (take-suc replies' n Shared within'))
      | inr past ↦ (
          let past' : length replies' ≤ n = omega (arith, both.count, both.count') in
          take_all (suc n) replies (omega arith)
          ∙ sym (take_all n replies past)
          ∙ before
          ∙ take_all n replies' past'
          ∙ sym (take_all (suc n) replies' (omega arith)))
    ]

all_replies : (plan : Plan) (keys : List KeyReply) (replies replies' : List ContextReply)
    (standing standing' : List (Option ContextView))
    → Both plan keys replies replies' standing standing' → replies ≡ replies'
all_replies plan keys replies replies' standing standing' both =
    let n = length plan.contexts in
    sym (take_all n replies (omega (arith, both.count)))
    ∙ one_replies plan keys replies replies' standing standing' both n
    ∙ take_all n replies' (omega (arith, both.count'))

all_slots : (plan : Plan) (keys : List KeyReply) (replies replies' : List ContextReply)
    (standing standing' : List (Option ContextView))
    → Both plan keys replies replies' standing standing' → standing ≡ standing'
all_slots plan keys replies replies' standing standing' both =
    same_lists standing standing' (both.slots ∙ sym both.slots') (λ n slot slot' es es'.
    let er = some_within standing replies n slot (both.slots ∙ sym both.count) es in
    let er' = some_within standing' replies' n slot' (both.slots' ∙ sym both.count') es' in
    let before = one_replies plan keys replies replies' standing standing' both n in
    (one_outcome plan keys replies replies' standing standing' both n er.0 er'.0 slot slot' before
    er.1 er'.1 es es').1)

-- ---- the whole

pub one_key_set_up_lem : OneKeySetUp
one_key_set_up_lem plan keys keys' a b =
    one_keys plan keys keys' a.key_count b.key_count a.key_replies b.key_replies

pub one_set_up_lem : OneSetUp
one_set_up_lem plan keys keys' contexts contexts' standing standing' a b =
    let same : keys ≡ keys' =
    one_keys plan keys keys' a.key_count b.key_count a.key_replies b.key_replies in
    let P : List KeyReply → Type 0 = λ ks. AreOutcomes plan ks contexts' standing' in
    let both : Both plan keys contexts contexts' standing standing' = record {
      count = a.context_count;
      count' = b.context_count;
      slots = a.standing_count;
      slots' = b.standing_count;
      is = a.outcomes;
      is' = subst P (sym same) b.outcomes;
    } in (
      same,
      all_replies plan keys contexts contexts' standing standing' both,
      all_slots plan keys
          contexts contexts' standing standing' both,
    )

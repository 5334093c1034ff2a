-- What a sender sealed is opened with the same secrets, one message after another.
use Rattle.std.proofs.Common.{◌≡◌, ◌<◌, ◌≤◌, ◌+◌, ℕ, Bool, true, false, cond, List, [], ◌∷◌, length, map, Result, Ok, Err, refl, sym, ap, subst, ◌∙◌, inl, inr, arith}
use Rattle.std.specs.Prelude.{nat_lt, IsTrue}
use Rattle.std.specs.Result.{result_and}
use Rattle.std.proofs.lemmas.Bool.{cond-true, lt-ltb}
use Rattle.hkdf_labelled.specs.declared.suites.Aead.{Aead}
use Rattle.hkdf_labelled.specs.declared.suites.Aead.TheVariants.{Aes128, Aes256, ExportOnly}
use Rattle.hkdf_labelled.specs.declared.suites.Suite.{Suite}
use Rattle.hkdf_labelled.specs.Suites.{encrypts}
use Rattle.hkdf_labelled.proofs.Expanding.{length-expand}
use Rattle.key_schedule.specs.declared.modes.Mode.{Mode}
use Rattle.key_schedule.specs.declared.psks.PskFault.{PskFault}
use Rattle.key_schedule.specs.declared.schedules.Secrets.{Secrets}
use Rattle.key_schedule.specs.Psks.{verify_psk_inputs}
use Rattle.key_schedule.specs.Schedule.{key_of, cipher_secrets_for, secrets_of, key_schedule}
use Rattle.hpke_aead.proofs.Opening.{IsWhole, key_is_whole, seal-holds, seal-clear}
use Rattle.hpke_context.specs.Answers.{Unseal, Cipher, Sealed_at, Opened_at, Failed_at, At_limit, answer, next, run}
use Rattle.hpke_aead.specs.Aeads.{seal, tag_holds, clear}
use Rattle.hpke_context.specs.Contexts.{ContextView, key_in, nonce_of, cipher_of}
use Rattle.hpke_aead.proofs.Tags.{tag_holds-is}
use Rattle.context_table.specs.Laws.{Message, to_seal, to_open, sealed_from, OpensInOrder}

-- ---- the key has the length that its AEAD asks for

length-key_of : (suite : Suite) (secret context : List ℕ) (size : ℕ) → size ≤ 32
    → length (key_of suite secret context size) ≡ size
length-key_of suite secret context size few = length-expand suite.kdf secret _ size few

is_whole : (aead : Aead) (suite : Suite) (secret context : List ℕ) → IsTrue (encrypts aead)
    → IsWhole (key_in (cipher_secrets_for aead suite secret context))
is_whole Aes128 suite secret context can = key_is_whole Aes128 _ can (length-key_of suite secret context 16 (omega arith))
is_whole Aes256 suite secret context can = key_is_whole Aes256 _ can (length-key_of suite secret context 32 (omega arith))
is_whole ExportOnly suite secret context can = absurd (let no : false ≡ true = can in cc)

secrets_by : (verified : Result (Unit {0}) PskFault) (whole secrets : Secrets)
    → result_and verified (Ok whole) ≡ Ok secrets → whole ≡ secrets
secrets_by (Ok u) whole secrets e = cc
secrets_by (Err fault) whole secrets e = absurd (let no : Err fault ≡ Ok secrets = e in cc)

pub secrets_are_whole : (suite : Suite) (mode : Mode) (shared_secret info psk psk_id : List ℕ)
    (secrets : Secrets)
    → key_schedule suite mode shared_secret info psk psk_id ≡ Ok secrets
    → IsTrue (encrypts suite.aead) → IsWhole (key_in secrets.cipher)
secrets_are_whole suite mode shared_secret info psk psk_id secrets is can =
    let whole = secrets_of suite mode shared_secret info psk psk_id in
    let made : whole ≡ secrets = secrets_by (verify_psk_inputs mode psk psk_id) whole secrets is in
    subst (λ (s : Secrets). IsWhole (key_in s.cipher)) made (is_whole suite.aead suite _ _ can)

-- ---- one message

sealed_by : (below : Bool) (n : ℕ) (ct made : List ℕ)
    → cond below (Sealed_at n made) At_limit ≡ Sealed_at n ct → made ≡ ct
sealed_by true n ct made e = cc
sealed_by false n ct made e = absurd (let no : At_limit ≡ Sealed_at n ct = e in cc)

opened_by : (c : Cipher) (n : ℕ) (aad ct text : List ℕ) → c.holds n aad ct ≡ true → n < c.limit
    → c.clear n aad ct ≡ text
    → answer c n (Unseal aad ct) ≡ Opened_at n text
opened_by c n aad ct text holds below clears =
    cond-true (c.holds n aad ct) (cond (nat_lt n c.limit) (Opened_at n (c.clear n aad ct)) At_limit)
    (Failed_at n) holds
    ∙ cond-true (nat_lt n c.limit) (Opened_at n (c.clear n aad ct)) At_limit
    (lt-ltb n c.limit below)
    ∙ ap (Opened_at n) clears

-- with the same secrets
opens_one : (sender recipient : ContextView) → recipient.secrets ≡ sender.secrets
    → IsWhole (key_in sender.secrets.cipher)
    → (n : ℕ) (message : Message) (ct : List ℕ)
    → answer (cipher_of sender) n (to_seal message) ≡ Sealed_at n ct → n < recipient.limit
    → answer (cipher_of recipient) n (Unseal message.aad ct) ≡ Opened_at n message.text
opens_one sender recipient same whole n message ct sealed below =
    let key = key_in sender.secrets.cipher in
    let nonce = nonce_of sender n in
    let made : seal key nonce message.aad message.text ≡ ct =
    sealed_by (nat_lt n sender.limit) n ct _ sealed in
    let key_same : key_in recipient.secrets.cipher ≡ key =
    ap (λ (s : Secrets). key_in s.cipher) same in
    let nonce_same : nonce_of recipient n ≡ nonce =
    ap (λ (s : Secrets). nonce_of (record sender { secrets = s }) n) same in
    let holds : tag_holds (key_in recipient.secrets.cipher)
    (nonce_of recipient n) message.aad ct ≡ true =
    ap (λ k. tag_holds k (nonce_of recipient n) message.aad ct) key_same
    ∙ ap (λ m. tag_holds key m message.aad ct) nonce_same
    ∙ ap (tag_holds key nonce message.aad) (sym made)
    ∙ (tag_holds-is key nonce message.aad (seal key nonce message.aad message.text)).1
    (seal-holds key nonce message.aad message.text whole) in
    let clears : clear (key_in recipient.secrets.cipher) (nonce_of recipient n) ct ≡ message.text =
    ap (λ k. clear k (nonce_of recipient n) ct) key_same
    ∙ ap (λ m. clear key m ct) nonce_same
    ∙ ap (clear key nonce) (sym made)
    ∙ seal-clear key nonce message.aad message.text whole in
    opened_by (cipher_of recipient) n message.aad ct message.text holds below clears

-- ---- all of them

pub opens_in_order : (sender recipient : ContextView) → recipient.secrets ≡ sender.secrets
    → IsWhole (key_in sender.secrets.cipher)
    → OpensInOrder sender recipient
opens_in_order sender recipient same whole n [] cts sealed within = refl
opens_in_order sender recipient same whole n (message ∷ messages) [] sealed within = absurd cc
opens_in_order sender recipient same whole n (message ∷ messages) (ct ∷ cts) sealed within =
    let c = cipher_of sender in
    let d = cipher_of recipient in
    let first : answer c n (to_seal message) ≡ Sealed_at n ct = cc in
    let rest : run c (next n (answer c n (to_seal message))) (map to_seal messages) ≡ sealed_from
    (n + 1) cts = cc in
    let on : run c (n + 1) (map to_seal messages) ≡ sealed_from (n + 1) cts =
    ap (λ a. run c (next n a) (map to_seal messages)) (sym first) ∙ rest in
    let opened : answer d n (Unseal message.aad ct) ≡ Opened_at n message.text =
    opens_one sender recipient same whole n message ct first (omega arith) in
    ap (λ a. a ∷ run d (next n a) (to_open messages cts)) opened
    ∙ ap (λ answers. Opened_at n message.text ∷ answers)
    (opens_in_order sender recipient same whole (n + 1) messages cts on (omega arith))

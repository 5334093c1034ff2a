-- What becomes of a request at the gateway, and of a response at the client: the text, or the first
-- refusal that applies.
use Rattle.std.specs.Prelude.{ℕ, ◌+◌, ◌==◌, nat_lt, if◌then◌else◌, List, [], length, take, drop, Option, Some, None, Result, Ok, Err}
use Rattle.ring_core.specs.Sets.{Set}
use Rattle.hkdf_labelled.specs.declared.suites.Suite.{Suite}
use Rattle.hpke_aead.specs.declared.keys.AeadKey.{AeadKey}
use Rattle.hpke_aead.specs.Aeads.{tag_holds, clear}
use Rattle.hpke_context.specs.Contexts.{ContextView, cipher_of}
use Rattle.ohttp_capsule.specs.declared.asking.Asked.{Asked}
use Rattle.ohttp_capsule.specs.declared.faults.CapsuleFault.{CapsuleFault}
use Rattle.ohttp_capsule.specs.declared.faults.CapsuleFault.TheVariants.{Short, Header, NonceSize, Failed}
use Rattle.ohttp_capsule.specs.Headers.{suite_named}
use Rattle.ohttp_capsule.specs.Requests.{tag_size, least_request, header_in, enc_in, ct_in, recipient_of}
use Rattle.ohttp_capsule.specs.Responses.{entropy_size, aead_key, aead_nonce, encapsulated_response}

-- ---- the gateway

-- the nonce of the response must have entropy_len bytes
abbrev pub suite_with : List ℕ → Option Suite → Result Suite CapsuleFault
suite_with nonce None = Err Header
suite_with nonce (Some suite) =
    if length nonce == entropy_size suite.aead then Ok suite else Err NonceSize

-- the algorithms of a request to the key of this identifier and KEM
abbrev pub suite_for : Set → ℕ → ℕ → List ℕ → List ℕ → Result Suite CapsuleFault
suite_for set kem key_id request nonce =
    if nat_lt (length request) (least_request set) then Err Short
    else suite_with nonce (suite_named key_id kem (header_in request))

-- the text that ct seals in the context of the request, its message number 0 with no aad, and the
-- response with this text: rctxt.Open("", ct)
abbrev pub answered_in : ContextView → List ℕ → List ℕ → List ℕ → List ℕ
    → Result (List ℕ × List ℕ) CapsuleFault
answered_in c enc ct nonce text =
    if (cipher_of c).holds 0 [] ct
    then Ok ((cipher_of c).clear 0 [] ct, encapsulated_response c enc nonce text)
    else Err Failed

abbrev pub answered_by : Set → List ℕ → ℕ → List ℕ → List ℕ → List ℕ → Result Suite CapsuleFault
    → Result (List ℕ × List ℕ) CapsuleFault
answered_by set sk key_id request nonce text (Err fault) = Err fault
answered_by set sk key_id request nonce text (Ok suite) =
    answered_in (recipient_of set sk key_id suite request) (enc_in set request) (ct_in set request)
    nonce text

-- what the holder of a secret key answers to a request (RFC 9458, 4.3 and 4.4)
abbrev pub answered : Set → ℕ → List ℕ → ℕ → List ℕ → List ℕ → List ℕ
    → Result (List ℕ × List ℕ) CapsuleFault
answered set kem sk key_id request nonce text =
    answered_by set sk key_id request nonce text (suite_for set kem key_id request nonce)

-- ---- the client

-- response_nonce and a tag are there
abbrev pub least_response : Asked → ℕ
least_response asked = entropy_size asked.context.suite.aead + tag_size

abbrev pub nonce_in : Asked → List ℕ → List ℕ
nonce_in asked response = take (entropy_size asked.context.suite.aead) response

abbrev pub ct_of_response : Asked → List ℕ → List ℕ
ct_of_response asked response = drop (entropy_size asked.context.suite.aead) response

-- Open(aead_key, aead_nonce, "", ct)
abbrev pub opened_with : AeadKey → List ℕ → List ℕ → Result (List ℕ) CapsuleFault
opened_with key nonce ct = if tag_holds key nonce [] ct then Ok (clear key nonce ct) else Err Failed

-- the text of a response with this nonce
abbrev pub taken_with : Asked → List ℕ → List ℕ → Result (List ℕ) CapsuleFault
taken_with asked nonce ct =
    opened_with (aead_key asked.context asked.enc nonce) (aead_nonce asked.context asked.enc nonce)
    ct

-- what the client takes of a response (RFC 9458, 4.4)
abbrev pub taken : Asked → List ℕ → Result (List ℕ) CapsuleFault
taken asked response =
    if nat_lt (length response) (least_response asked) then Err Short
    else taken_with asked (nonce_in asked response) (ct_of_response asked response)

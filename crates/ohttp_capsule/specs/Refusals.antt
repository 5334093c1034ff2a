-- When a request or a response is refused, the first that applies, by facts.
use Rattle.std.specs.Prelude.{◌≡◌, ◌≢◌, ℕ, ◌<◌, ◌≤◌, List, [], length}
use Rattle.ring_core.specs.Sets.{Set}
use Rattle.hkdf_labelled.specs.declared.suites.Suite.{Suite}
use Rattle.hpke_aead.specs.Aeads.{Holds}
use Rattle.hpke_context.specs.Contexts.{key_in, nonce_of}
use Rattle.ohttp_capsule.specs.declared.asking.Asked.{Asked}
use Rattle.ohttp_capsule.specs.Headers.{Names}
use Rattle.ohttp_capsule.specs.Requests.{least_request, header_in, ct_in, recipient_of}
use Rattle.ohttp_capsule.specs.Responses.{entropy_size, aead_key, aead_nonce}
use Rattle.ohttp_capsule.specs.Replies.{least_response, nonce_in, ct_of_response}

-- ---- of a request

-- hdr, enc and a tag aren't there
abbrev pub IsShortRequest : Set → List ℕ → Type 0
IsShortRequest set request = length request < least_request set

-- they are, and hdr isn't that of the key with algorithms that encrypt
pub record HasOtherHeader (set : Set) (kem key_id : ℕ) (request : List ℕ) : Type 0 where
  pub long : least_request set ≤ length request
  pub none : (suite : Suite) → ¬ Names key_id kem (header_in request) suite

-- the request is long enough, and its header names this suite
pub record IsTo (set : Set) (kem key_id : ℕ) (request : List ℕ) (suite : Suite) : Type 0 where
  pub long : least_request set ≤ length request
  pub named : Names key_id kem (header_in request) suite

-- the nonce of the response hasn't entropy_len bytes
abbrev pub HasOtherNonce : Set → ℕ → ℕ → List ℕ → List ℕ → Type 0
HasOtherNonce set kem key_id request nonce =
    (suite : Suite) × IsTo set kem key_id request suite × (length nonce ≢ entropy_size suite.aead)

-- it has, and the text's tag doesn't hold in the context of the request, at number 0
pub record DoesNotOpen (set : Set) (kem : ℕ) (sk : List ℕ) (key_id : ℕ) (request nonce : List ℕ)
    : Type 0 where
  pub suite : Suite
  pub to : IsTo set kem key_id request suite
  pub nonce_size : length nonce ≡ entropy_size suite.aead
  pub wrong :
      let c = recipient_of set sk key_id suite request in
      ¬ Holds (key_in c.secrets.cipher) (nonce_of c 0) [] (ct_in set request)

-- ---- of a response

-- response_nonce and a tag aren't there
abbrev pub IsShortResponse : Asked → List ℕ → Type 0
IsShortResponse asked response = length response < least_response asked

-- they are, and the tag doesn't hold under the key and nonce of the exchange
pub record IsOfNoExchange (asked : Asked) (response : List ℕ) : Type 0 where
  pub long : least_response asked ≤ length response
  pub wrong :
      let nonce = nonce_in asked response in
      ¬ Holds (aead_key asked.context asked.enc nonce) (aead_nonce asked.context asked.enc nonce) []
      (ct_of_response asked response)

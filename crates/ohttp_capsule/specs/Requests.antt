-- Encapsulated requests (RFC 9458, 4.1 and 4.3): a text that is sealed to a public key, in a context
-- of its own. A byte string is a list of numbers below 256; sizes are in bytes.
use Rattle.std.specs.Prelude.{ℕ, ◌+◌, ℤ, List, [], ◌++◌, take, drop}
use Rattle.ring_core.specs.Sets.{Set}
use Rattle.sntrup_kem.specs.Sizes.{enc_size}
use Rattle.sntrup_kem.specs.Kem.{enc_of, session_of, decapsulated}
use Rattle.hkdf_labelled.specs.declared.suites.Suite.{Suite}
use Rattle.key_schedule.specs.declared.modes.Mode.TheVariants.{Base}
use Rattle.key_schedule.specs.declared.modes.Role.{Role}
use Rattle.key_schedule.specs.declared.modes.Role.TheVariants.{Sender, Recipient}
use Rattle.key_schedule.specs.Schedule.{secrets_of}
use Rattle.hpke_context.specs.Contexts.{ContextView, cipher_of}
use Rattle.ohttp_capsule.specs.declared.asking.Asked.{Asked}
use Rattle.ohttp_capsule.specs.Headers.{header_size, header, request_info}

-- the tag of an AEAD, Nt (RFC 9180, 7.3)
abbrev pub tag_size : ℕ
tag_size = 16

-- the context of one end, by the KEM's shared secret: KeySchedule in mode base, which raises no error
-- where no psk is given (RFC 9180, 5.1 and 5.1.1). It seals one message, so LIMIT is 1
abbrev pub context_of : Role → ℕ → Suite → List ℕ → ContextView
context_of role key_id suite shared_secret =
    record {
      role = role;
      suite = suite;
      limit = 1;
      secrets = secrets_of suite Base shared_secret (request_info key_id suite) [] [];
    }

-- ---- the client

-- what a client keeps of a request: SetupBaseS(pkR, info), where Encap draws r
abbrev pub asked_with : ℕ → Suite → Set → List ℕ → List ℤ → Asked
asked_with key_id suite set pk r =
    record {
      context = context_of Sender key_id suite (session_of set pk r);
      enc = enc_of set pk r;
    }

-- enc_request: hdr, enc and ct. ct is the context's first message, number 0, with no aad
abbrev pub encapsulated_request : ℕ → Asked → List ℕ → List ℕ
encapsulated_request key_id asked text =
    header key_id asked.context.suite ++ asked.enc ++ (cipher_of asked.context).sealed 0 [] text

-- ---- the gateway, which reads hdr, enc and ct

-- hdr, enc and a tag are there
abbrev pub least_request : Set → ℕ
least_request set = header_size + enc_size set + tag_size

abbrev pub header_in : List ℕ → List ℕ
header_in request = take header_size request

abbrev pub enc_in : Set → List ℕ → List ℕ
enc_in set request = take (enc_size set) (drop header_size request)

abbrev pub ct_in : Set → List ℕ → List ℕ
ct_in set request = drop (enc_size set) (drop header_size request)

-- SetupBaseR(enc, skR, info)
abbrev pub recipient_of : Set → List ℕ → ℕ → Suite → List ℕ → ContextView
recipient_of set sk key_id suite request =
    context_of Recipient key_id suite (decapsulated set sk (enc_in set request))

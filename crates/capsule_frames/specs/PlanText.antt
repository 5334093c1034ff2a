-- The text of a plan of capsules, line by line in the order of the format. A line's pieces are parted
-- by single spaces, and a line feed ends it. Numbers are decimal without leading zeros, bytes are
-- lower-case hex digits, `-` for none. A span names bytes of the plan's pool.
use Rattle.std.specs.Prelude.{ℕ, List, [], ◌∷◌, ◌++◌, codes, decimal}
use Rattle.std.specs.List.{flat_map}
use Rattle.hkdf_labelled.specs.Suites.{kdf_id, aead_id}
use Rattle.field_text.specs.Cuts.{line_text}
use Rattle.request_frames.specs.KeyText.{span_text, enc_text, seed_text, key_text}
use Rattle.capsule_frames.specs.declared.lines.CapsuleLine.{CapsuleLine}
use Rattle.capsule_frames.specs.declared.lines.CapsuleLine.TheVariants.{Ask, Answer, Take}
use Rattle.capsule_frames.specs.declared.lines.CapsulePlan.{CapsulePlan}

-- the pieces of a capsule line: `ask KEY ID KDF AEAD TEXT`, `answer KEY ID REQ NONCE TEXT`,
-- `take ASK RESP`
abbrev pub capsule_pieces : List ℕ → CapsuleLine → List (List ℕ)
capsule_pieces pool (Ask key id kdf aead text) =
    codes "ask"
    ∷ decimal key
    ∷ decimal id
    ∷ decimal (kdf_id kdf)
    ∷ decimal (aead_id aead)
    ∷ span_text pool text
    ∷ []
capsule_pieces pool (Answer key id request nonce text) =
    codes "answer"
    ∷ decimal key
    ∷ decimal id
    ∷ enc_text pool request
    ∷ span_text pool nonce
    ∷ span_text pool text
    ∷ []
capsule_pieces pool (Take ask response) =
    codes "take" ∷ decimal ask ∷ enc_text pool response ∷ []

-- the line
abbrev pub capsule_text : List ℕ → CapsuleLine → List ℕ
capsule_text pool line = line_text (capsule_pieces pool line)

-- the whole text
abbrev pub text_of : CapsulePlan → List ℕ
text_of p =
    codes "hpkebatch 2\n"
    ++ seed_text p.plan.seed
    ++ flat_map (key_text p.plan.pool) p.plan.keys
    ++ flat_map (capsule_text p.plan.pool) p.lines
    ++ codes "end\n"

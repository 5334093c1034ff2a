-- The statuses, as the header names them. Those below 8 are the command's, where it has one that
-- means the same; from 8 on a status is a word of a refusal in the reply to a batch.
use Rattle.std.specs.Prelude.{ℕ}

-- the work is done
abbrev pub done : ℕ
done = 0

-- a length doesn't fit, or a number names nothing
abbrev pub wrong_usage : ℕ
wrong_usage = 2

-- out of memory
abbrev pub no_memory : ℕ
no_memory = 6

-- a recipient doesn't seal, and a sender doesn't open
abbrev pub refused_role : ℕ
refused_role = 8

-- the context is export-only
abbrev pub refused_nocipher : ℕ
refused_nocipher = 9

-- the numbers below LIMIT are used
abbrev pub refused_limit : ℕ
refused_limit = 10

-- the tag doesn't hold
abbrev pub refused_failed : ℕ
refused_failed = 11

-- more bytes are asked for than one export gives
abbrev pub refused_exportsize : ℕ
refused_exportsize = 12

-- none of the polynomials that were drawn for g has an inverse
abbrev pub refused_exhausted : ℕ
refused_exhausted = 13

-- 3f has no inverse
abbrev pub refused_noinverse : ℕ
refused_noinverse = 14

-- the bytes encode no secret key
abbrev pub refused_form : ℕ
refused_form = 15

-- one of psk and psk_id is missing
abbrev pub refused_pskpair : ℕ
refused_pskpair = 16

-- mode base takes no psk
abbrev pub refused_pskextra : ℕ
refused_pskextra = 17

-- mode psk needs a psk
abbrev pub refused_pskmissing : ℕ
refused_pskmissing = 18

-- a part of the message is missing
abbrev pub refused_short : ℕ
refused_short = 20

-- the header names another key, or algorithms that don't encrypt
abbrev pub refused_header : ℕ
refused_header = 21

-- the nonce of the response has another size than its AEAD asks for
abbrev pub refused_noncesize : ℕ
refused_noncesize = 22

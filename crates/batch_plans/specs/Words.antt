-- The words of refusals and reasons, a format of this program's own.
use Rattle.std.specs.Prelude.{ℕ, List, codes}
use Rattle.field_text.specs.declared.reasons.Reason.{Reason}
use Rattle.field_text.specs.declared.reasons.Reason.TheVariants as reasons
use Rattle.batch_plans.specs.declared.replies.KeyRefusal.{KeyRefusal}
use Rattle.batch_plans.specs.declared.replies.KeyRefusal.TheVariants.{Exhausted, NoInverse, Length, Form}
use Rattle.batch_plans.specs.declared.replies.ContextRefusal.{ContextRefusal}
use Rattle.batch_plans.specs.declared.replies.ContextRefusal.TheVariants.{NoKey, NeedSecret, NoEnc, EncSize, PskPair, PskExtra, PskMissing}
use Rattle.batch_plans.specs.declared.replies.CallRefusal.{CallRefusal}
use Rattle.batch_plans.specs.declared.replies.CallRefusal.TheVariants as calls

-- why there is no key
abbrev pub key_refusal_word : KeyRefusal → List ℕ
key_refusal_word Exhausted = codes "exhausted"
key_refusal_word NoInverse = codes "noinverse"
key_refusal_word Length = codes "length"
key_refusal_word Form = codes "form"

-- why there is no context
abbrev pub context_refusal_word : ContextRefusal → List ℕ
context_refusal_word NoKey = codes "nokey"
context_refusal_word NeedSecret = codes "needsecret"
context_refusal_word NoEnc = codes "noenc"
context_refusal_word EncSize = codes "encsize"
context_refusal_word PskPair = codes "pskpair"
context_refusal_word PskExtra = codes "pskextra"
context_refusal_word PskMissing = codes "pskmissing"

-- why a call is not served
abbrev pub call_refusal_word : CallRefusal → List ℕ
call_refusal_word calls.NoContext = codes "nocontext"
call_refusal_word calls.Role = codes "role"
call_refusal_word calls.NoCipher = codes "nocipher"
call_refusal_word calls.ExportSize = codes "exportsize"
call_refusal_word calls.PskPair = codes "pskpair"
call_refusal_word calls.PskExtra = codes "pskextra"
call_refusal_word calls.PskMissing = codes "pskmissing"

-- why a line of a batch text is bad
abbrev pub reason_word : Reason → List ℕ
reason_word reasons.Header = codes "header"
reason_word reasons.Word = codes "word"
reason_word reasons.Fields = codes "fields"
reason_word reasons.Number = codes "number"
reason_word reasons.Hex = codes "hex"
reason_word reasons.Range = codes "range"
reason_word reasons.Order = codes "order"
reason_word reasons.Count = codes "count"
reason_word reasons.Size = codes "size"
reason_word reasons.NoEnd = codes "noend"
reason_word reasons.Trailing = codes "trailing"

-- The lines of a lane by the replies that were given.
use Rattle.std.proofs.Common.{◌≡◌, ◌<◌, ◌≤◌, ◌+◌, ℕ, suc, true, false, List, [], ◌∷◌, ◌++◌, length, map, filter, take, drop, get_or, refl, sym, ap, ◌∙◌, append_assoc, append-nil, add-one, arith}
use Rattle.std.specs.List.{concat}
use Rattle.std.proofs.Math.Seq.{take-suc}
use Rattle.std.proofs.lemmas.List.Elements.{filter-append}
use Rattle.batch_plans.specs.declared.replies.Reply.{Reply}
use Rattle.batch_plans.specs.declared.replies.Reply.TheVariants.{Blank, Sealed, Opened, Failed, Limit, Exported, Refused, Added, Retired}
use Rattle.batch_plans.specs.AnswersText.{reply_line, is_given}
use Rattle.reply_frames.proofs.LinesLeft.{drop-next}

-- ---- replies that were not given

abbrev pub given : List Reply → List Reply
given replies = filter is_given replies

-- they have no line
pub given_text : (pool : List ℕ) (replies : List Reply)
    → concat (map (reply_line pool) replies) ≡ concat (map (reply_line pool) (given replies))
given_text pool [] = refl
given_text pool (Blank ∷ replies) = given_text pool replies
given_text pool (Sealed number text ∷ replies) =
    ap (λ (rest : List ℕ). reply_line pool (Sealed number text) ++ rest) (given_text pool replies)
given_text pool (Opened number text ∷ replies) =
    ap (λ (rest : List ℕ). reply_line pool (Opened number text) ++ rest) (given_text pool replies)
given_text pool (Failed number ∷ replies) =
    ap (λ (rest : List ℕ). reply_line pool (Failed number) ++ rest) (given_text pool replies)
given_text pool (Limit ∷ replies) =
    ap (λ (rest : List ℕ). reply_line pool Limit ++ rest) (given_text pool replies)
given_text pool (Exported text ∷ replies) =
    ap (λ (rest : List ℕ). reply_line pool (Exported text) ++ rest) (given_text pool replies)
given_text pool (Refused refusal ∷ replies) =
    ap (λ (rest : List ℕ). reply_line pool (Refused refusal) ++ rest) (given_text pool replies)
given_text pool (Added ∷ replies) =
    ap (λ (rest : List ℕ). reply_line pool Added ++ rest) (given_text pool replies)
given_text pool (Retired ∷ replies) =
    ap (λ (rest : List ℕ). reply_line pool Retired ++ rest) (given_text pool replies)

-- the replies up to that of this number
take-here : (replies : List Reply) (next : ℕ) (d reply : Reply) → next < length replies
    → reply ≡ get_or replies next d → take (next + 1) replies ≡ take next replies ++ reply ∷ []
take-here replies next d reply lt is =
    ap (λ (n : ℕ). take n replies) (add-one next)
    ∙ take-suc replies next d lt
    ∙ ap (λ (r : Reply). take next replies ++ r ∷ []) (sym is)

given-blank : (reply : Reply) (replies : List Reply) → is_given reply ≡ false
    → given (reply ∷ replies) ≡ given replies
given-blank reply replies absent = rw absent refl

given-next : (reply : Reply) (replies : List Reply) → is_given reply ≡ true
    → given (reply ∷ replies) ≡ reply ∷ given replies
given-next reply replies there = rw there refl

-- ---- up to so many

-- of so many that were given, all but these are passed
pub record Passed (replies : List Reply) (count next left : ℕ) : Type 0 where
  pub within : next ≤ length replies
  pub own : given (take next replies) ++ take left (given (drop next replies))
      ≡ take count (given replies)
  pub later : drop left (given (drop next replies)) ≡ drop count (given replies)

pub passed-blank : (replies : List Reply) (count next left : ℕ) (d reply : Reply)
    → next < length replies → reply ≡ get_or replies next d → is_given reply ≡ false
    → Passed replies count next left → Passed replies count (next + 1) left
passed-blank replies count next left d reply lt is absent before =
    let rest = drop (next + 1) replies in
    let here : given (drop next replies) ≡ given rest =
    ap given (drop-next replies next d reply lt is) ∙ given-blank reply rest absent in
    let front : given (take (next + 1) replies) ≡ given (take next replies) =
    ap given (take-here replies next d reply lt is)
    ∙ filter-append is_given (take next replies) (reply ∷ [])
    ∙ ap (λ (rs : List Reply). given (take next replies) ++ rs) (given-blank reply [] absent)
    ∙ append-nil (given (take next replies)) in
    record {
      within = omega (arith, lt);
      own =
          ap (λ (rs : List Reply). rs ++ take left (given rest)) front
          ∙ ap (λ (rs : List Reply). given (take next replies) ++ take left rs) (sym here)
          ∙ before.own;
      later = ap (λ (rs : List Reply). drop left rs) (sym here) ∙ before.later;
    }

pub passed-given : (replies : List Reply) (count next left fewer : ℕ) (d reply : Reply)
    → next < length replies → reply ≡ get_or replies next d → is_given reply ≡ true
    → left ≡ suc fewer → Passed replies count next left → Passed replies count (next + 1) fewer
passed-given replies count next left fewer d reply lt is there more before =
    let rest = drop (next + 1) replies in
    let here : given (drop next replies) ≡ reply ∷ given rest =
    ap given (drop-next replies next d reply lt is) ∙ given-next reply rest there in
    let front : given (take (next + 1) replies) ≡ given (take next replies) ++ reply ∷ [] =
    ap given (take-here replies next d reply lt is)
    ∙ filter-append is_given (take next replies) (reply ∷ [])
    ∙ ap (λ (rs : List Reply). given (take next replies) ++ rs) (given-next reply [] there) in
    record {
      within = omega (arith, lt);
      own =
          ap (λ (rs : List Reply). rs ++ take fewer (given rest)) front
          ∙ append_assoc (given (take next replies)) (reply ∷ []) (take fewer (given rest))
          ∙ ap (λ (rs : List Reply). given (take next replies) ++ take (suc fewer) rs) (sym here)
          ∙ ap (λ (n : ℕ). given (take next replies) ++ take n (given (drop next replies))) (sym more)
          ∙ before.own;
      later =
          ap (λ (rs : List Reply). drop (suc fewer) rs) (sym here)
          ∙ ap (λ (n : ℕ). drop n (given (drop next replies))) (sym more)
          ∙ before.later;
    }

-- A line as it is printed, and the same line without its line feed.
use Rattle.std.proofs.Common.{◌≡◌, ◌≢◌, ℕ, Bool, true, false, List, [], ◌∷◌, ◌++◌, refl, sym, ap, ◌∙◌}
use Rattle.std.specs.Str.{bytes_eq}
use Rattle.std.proofs.lemmas.Slice.Eq.{bytes_eq-Decides}
use Rattle.std.proofs.lemmas.List.{append_cancel_right}

pub same_truth : (a b : Bool) → (a ≡ true → b ≡ true) → (b ≡ true → a ≡ true) → a ≡ b
same_truth true b there back = sym (there refl)
same_truth false true there back = back refl
same_truth false false there back = refl

-- the line behind which a line feed stands
with_feed_is : (line body due : List ℕ) → due ≡ body ++ 10 ∷ [] → bytes_eq body line ≡ bytes_eq (line ++ 10 ∷ []) due
with_feed_is line body due is =
    let short = bytes_eq-Decides body line in
    let whole = bytes_eq-Decides (line ++ 10 ∷ []) due in
    same_truth _ _
    (λ e. whole.1 (ap (λ (xs : List ℕ). xs ++ 10 ∷ []) (sym (short.0 e)) ∙ sym is))
    (λ e. short.1 (append_cancel_right body line (10 ∷ []) (sym is ∙ sym (whole.0 e))))

pub with_its_feed : (line body due feed : List ℕ) → feed ≡ 10 ∷ [] → due ≡ body ++ feed → bytes_eq body line ≡ bytes_eq (line ++ 10 ∷ []) due
with_its_feed line body due feed one is = with_feed_is line body due (is ∙ ap (λ (xs : List ℕ). body ++ xs) one)

-- a text that doesn't end with a line feed is no line
pub without_feed : (line due feed : List ℕ) → feed ≡ 10 ∷ [] → ((front : List ℕ) → due ≢ front ++ feed) → false ≡ bytes_eq (line ++ 10 ∷ []) due
without_feed line due feed one none =
    same_truth _ _ (λ e. absurd (there e))
    (λ e. absurd (none line (sym ((bytes_eq-Decides (line ++ 10 ∷ []) due).0 e) ∙ ap (λ (xs : List ℕ). line ++ xs) (sym one))))
  where
    there : false ≡ true → ⊥
    there e = cc

-- What capsule lines leave for later ones. A byte string is a list of numbers below 256.
use Rattle.std.specs.Prelude.{ℕ, List}
use Rattle.ohttp_capsule.specs.declared.asking.Asked.{Asked}

-- of an ask that was made: what the client keeps, and the request
pub record SentView : Type 0 where
  pub asked : Asked
  pub request : List ℕ

-- of an answer that was given: the text of the request, and the response
pub record GivenView : Type 0 where
  pub text : List ℕ
  pub response : List ℕ

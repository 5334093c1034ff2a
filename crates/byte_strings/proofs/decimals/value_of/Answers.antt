use Rattle.std.proofs.Common.{◌≡◌, drop, [], sym, ap, ◌∙◌, arith}
use Rattle.std.proofs.lemmas.List.{drop_all}
use Rattle.std.proofs.lemmas.List.Sums.{AllPass-from_list_all}
use Rattle.std.specs.Char.{is_ascii_digit}
use Rattle.std.specs.Str.Parse.{digits_value, digits_value_after}
use Rattle.byte_strings.proofs.Numbers.{number_digits}
use Rattle.byte_strings.proofs.decimals.value_of.Goals as goal

pub with_digit-requires : goal.with_digit-requires
with_digit-requires c =
    let text = c.args.text.now in
    AllPass-from_list_all is_ascii_digit text (number_digits text c.requires) c.digits.digit-index 0 (omega arith)

pub returns : goal.returns
returns c =
    let none : drop c.digits.digit-index c.args.text.now ≡ [] = drop_all c.digits.digit-index c.args.text.now (omega arith) in
    let value : c.digits.value ≡ digits_value 10 c.args.text.now = sym (ap (digits_value_after 10 c.digits.value) none) ∙ c.digits.invariant.number in
    (omega arith, value)

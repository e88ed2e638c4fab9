-- What words say, by what a command of `clap` makes of them.
use Rattle.std.proofs.Common.{◌≡◌, Bool, true, false, ◌&&◌, List, [], Option, Some, None, Result, IfOk, IsErrOf, if◌then◌else◌, refl, sym, ap, subst, ◌∙◌}
use Rattle.std.specs.Option.{ok_or}
use Rattle.clap.specs.Walk.{is_empty}
use Rattle.clap.specs.Words.{App, Kinds, Text, fault_of, is_simple, is_simple_and_free}
use Rattle.command_line.specs.Words.{if_taken}
use Rattle.command_line.specs.declared.fault.WordsFault.{WordsFault}
use Rattle.command_line.specs.declared.fault.WordsFault.TheVariants.{BadWords}

first-holds : (a b : Bool) → (a && b) ≡ true → a ≡ true
first-holds true b both = refl
first-holds false b both = cc

pub simple-too : (a : App) → is_simple_and_free a ≡ true → is_simple a ≡ true
simple-too a both = first-holds (is_simple a) _ both

module _ {X : Type 0} (app parser : App) (words : List Text) (said read : Option X) (r : Result X WordsFault)
    (is : parser ≡ app) (none : fault_of parser words ≡ []) (same : read ≡ said) (gives : r ≡ ok_or read BadWords) where
  taken : if_taken app words said ≡ read
  taken = ap (λ (ks : Kinds). if is_empty ks then said else None) (sym (ap (λ (a : App). fault_of a words) is) ∙ none) ∙ sym same

  -- what is read is what is said
  pub ok : IfOk r (λ x. if_taken app words said ≡ Some x)
  ok = subst (λ (s : Result X WordsFault). IfOk s (λ x. if_taken app words said ≡ Some x)) (sym gives) (by read taken) where
    by : (o : Option X) → if_taken app words said ≡ o → IfOk (ok_or o BadWords) (λ x. if_taken app words said ≡ Some x)
    by None is = tt
    by (Some x) is = is

  -- where nothing is read, nothing is said
  pub wrong : IsErrOf r BadWords → if_taken app words said ≡ None
  wrong = subst (λ (s : Result X WordsFault). IsErrOf s BadWords → if_taken app words said ≡ None) (sym gives) (by read taken) where
    by : (o : Option X) → if_taken app words said ≡ o → IsErrOf (ok_or o BadWords) BadWords → if_taken app words said ≡ None
    by None is bad = is
    by (Some x) is bad = absurd (cc bad)

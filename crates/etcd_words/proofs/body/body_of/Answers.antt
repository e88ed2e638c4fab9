use Rattle.std.proofs.Common.{◌≡◌, IfOk, sym, subst}
use Rattle.std.specs.String.{string_bytes}
use Rattle.etcd_words.specs.Asking.{body_text}
use Rattle.etcd_words.specs.declared.ask.Ask.{Ask}
use Rattle.etcd_words.proofs.body.body_of.Goals as goal

pub returns-in-Register : goal.returns-in-Register
returns-in-Register c = subst (λ (ask : Ask). IfOk c.registration.result (λ text. string_bytes text ≡ body_text ask))
    (sym c.in-Register.is) c.registration.ensures

pub returns-in-Condemn : goal.returns-in-Condemn
returns-in-Condemn c = subst (λ (ask : Ask). IfOk c.condemnation.result (λ text. string_bytes text ≡ body_text ask))
    (sym c.in-Condemn.is) c.condemnation.ensures

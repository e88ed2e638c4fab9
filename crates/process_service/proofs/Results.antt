-- What holds of a result's value.
use Rattle.std.proofs.Common.{Result, Ok, Err, IfOk, OnOk, OnErr}

pub on-ok : {T E : Type 0} {P Q : T → Type 0} (r : Result T E) → ((x : T) → P x → Q x) → IfOk r P → IfOk r Q
on-ok (Ok x) from is = from x is
on-ok (Err e) from is = tt

pub on-err : {T E : Type 0} {P Q R : Type 0} (r : Result T E) → (P → Q → R) → OnErr r P → OnErr r Q → OnErr r R
on-err (Ok x) from p q = tt
on-err (Err e) from p q = from p q

pub on-err-any : {T E : Type 0} {P : Type 0} (r : Result T E) → P → OnErr r P
on-err-any (Ok x) p = tt
on-err-any (Err e) p = p

pub on-ok-with : {T E : Type 0} {A : Type 0} {P Q : T → Type 0} (r : Result T E) → ((x : T) → A → P x → Q x) → OnOk r A → IfOk r P → IfOk r Q
on-ok-with (Ok x) from a is = from x a is
on-ok-with (Err e) from a is = tt

pub on-err-one : {T E : Type 0} {P R : Type 0} (r : Result T E) → (P → R) → OnErr r P → OnErr r R
on-err-one (Ok x) from p = tt
on-err-one (Err e) from p = from p

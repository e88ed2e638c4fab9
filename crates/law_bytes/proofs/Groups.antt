-- How moves change what a session has under way, from what one process's step makes of it.
use Rattle.std.proofs.Common.{◌≡◌, ◌≢◌, ℕ, zero, suc, ◌+◌, ◌≤◌, Bool, true, false, List, [], ◌∷◌, ◌++◌, take, ◌⊎◌, inl}
use Rattle.std.proofs.Common.{inr, sym, ap, subst, ◌∙◌, refl, arith, if◌then◌else◌}
use Rattle.group_types.specs.Dimensions.{Dimensions}
use Rattle.group_types.specs.Names.{IsProcess, same_process}
use Rattle.group_types.specs.declared.process.ProcessId.{ProcessId}
use Rattle.group_types.proofs.Names.{same-cases, same-ne, same-refl}
use Rattle.membership.specs.Members.{knows_dead}
use Rattle.group_message.specs.declared.message.Message.{Message}
use Rattle.group_message.specs.declared.message.Message.TheVariants as tells
use Rattle.group_run.specs.Applying.{ProcessStep, Sent}
use Rattle.group_run.specs.World.{front_if, sent_to}
use Rattle.law_moves.proofs.Moves.{Acted, Died, Popped}
use Rattle.law_moves.specs.State.{State}
use Rattle.law_bytes.proofs.Tokens.{Token, around, at_process, between, everyone, in_link, is_token, one_if, sum_of, tokens}
use Rattle.law_bytes.proofs.Sums.{everyone-inside, everyone-once, only-here, only_at, sum-both, sum-le, sum-less, sum-only, sum-zero, within-everyone}

pub in-append : (t : Token) (x q : ProcessId) (ms ns : List Message) → in_link t x q (ms ++ ns) ≡ in_link t x q ms + in_link t x q ns
in-append t x q [] ns = omega arith
in-append t x q (m ∷ ms) ns = let rest = in-append t x q ms ns in omega (arith, rest)

in-take : (t : Token) (x q : ProcessId) (n : ℕ) (ms : List Message) → in_link t x q (take n ms) ≤ in_link t x q ms
in-take t x q zero ms = omega arith
in-take t x q (suc n) [] = omega arith
in-take t x q (suc n) (m ∷ ms) = let rest = in-take t x q n ms in omega (arith, rest)

-- the tokens among what a process sends
abbrev pub in_sent : Token → ProcessId → List Sent → ℕ
in_sent t x [] = 0
in_sent t x (z ∷ zs) = one_if (is_token t x z.to z.message) + in_sent t x zs

pub in_sent-append : (t : Token) (x : ProcessId) (a b : List Sent) → in_sent t x (a ++ b) ≡ in_sent t x a + in_sent t x b
in_sent-append t x [] b = omega arith
in_sent-append t x (z ∷ zs) b = let rest = in_sent-append t x zs b in omega (arith, rest)

-- each goes to one process
front-link : (t : Token) (p q to : ProcessId) (m : Message) (rest : List Message)
    → in_link t p q (front_if (same_process to q) m rest) ≤ only_at to (one_if (is_token t p to m)) q + in_link t p q
    rest
front-link t p q to m rest = by (same-cases q to) where
  by : (q ≡ to) ⊎ (q ≢ to) → in_link t p q (front_if (same_process to q) m rest) ≤ only_at to (one_if (is_token t p to m)) q + in_link t p q rest
  by (inl same) =
      let here = only-here to q (one_if (is_token t p to m)) same in
      let is : in_link t p q (front_if (same_process to q) m rest) ≡ one_if
      (is_token t p q m) + in_link t p q rest = ap (λ (b : Bool). in_link t p q (front_if b m rest)) (ap (same_process to) same ∙ same-refl to) in
      let one : one_if (is_token t p q m) ≡ one_if (is_token t p to m) = ap (λ (y : ProcessId). one_if (is_token t p y m)) same in
      omega (arith, here, is, one)
  by (inr other) =
      let is : in_link t p q (front_if (same_process to q) m rest) ≡ in_link t p q rest =
      ap (λ (b : Bool). in_link t p q (front_if b m rest)) (same-ne to q (λ same. other (sym same))) in
      omega (arith, is)

sent-sum : (s : Dimensions) (t : Token) (p : ProcessId) (sent : List Sent) → sum_of (everyone s) (λ q. in_link t p q (sent_to q sent)) ≤ in_sent t p sent
sent-sum s t p [] = let none = sum-zero (everyone s) (λ q. 0) (λ q there. refl) in omega (arith, none)
sent-sum s t p (z ∷ zs) =
    let rest = sent-sum s t p zs in
    let first = sum-only (everyone s) z.to (one_if (is_token t p z.to z.message)) (everyone-once s) in
    let split = sum-both (everyone s) (only_at z.to (one_if (is_token t p z.to z.message))) (λ q. in_link t p q (sent_to q zs)) in
    let whole = sum-le (everyone s) (λ q. only_at z.to (one_if (is_token t p z.to z.message)) q + in_link t p q (sent_to q zs))
    (λ q. in_link t p q (sent_to q (z ∷ zs))) (λ q there. front-link t p q z.to z.message (sent_to q zs)) in
    omega (arith, rest, first, split, whole)

module _ (s : Dimensions) (t : Token) where
  between-same : (v w : State) (q x : ProcessId) → w.link x q ≡ v.link x q → between w t q x ≡ between v t q x
  between-same v w q x same = ap (λ (ms : List Message). if same_process x q then 0 else in_link t x q ms) same

  between-other : (v : State) (q x : ProcessId) → x ≢ q → between v t q x ≡ in_link t x q (v.link x q)
  between-other v q x other = ap (λ (b : Bool). if b then 0 else in_link t x q (v.link x q)) (same-ne x q other)

  between-self : (v : State) (q x : ProcessId) → x ≡ q → between v t q x ≡ 0
  between-self v q x same = ap (λ (b : Bool). if b then 0 else in_link t x q (v.link x q)) (ap (λ (y : ProcessId). same_process x y) (sym same) ∙ same-refl x)

  around-living : (v : State) (q : ProcessId) → v.dead q ≡ false → around s v t q ≡ at_process t (v.process q) + sum_of (everyone s) (between v t q)
  around-living v q lives = ap (λ (b : Bool). if b then 0 else at_process t (v.process q) + sum_of (everyone s) (between v t q)) lives

  around-dead : (v : State) (q : ProcessId) → v.dead q ≡ true → around s v t q ≡ 0
  around-dead v q dead = ap (λ (b : Bool). if b then 0 else at_process t (v.process q) + sum_of (everyone s) (between v t q)) dead

  -- by whether a process is dead, in both states alike
  around-le : (v w : State) (q : ProcessId) (c : ℕ) → w.dead q ≡ v.dead q
      → (v.dead q ≡ false → at_process t (w.process q) + sum_of (everyone s) (between w t q)
      ≤ at_process t (v.process q) + sum_of (everyone s) (between v t q) + c)
      → around s w t q ≤ around s v t q + c
  around-le v w q c same living = by (v.dead q) refl where
    by : (b : Bool) → v.dead q ≡ b → around s w t q ≤ around s v t q + c
    by true dead = let none = around-dead w q (same ∙ dead) in omega (arith, none)
    by false lives = let before = around-living v q lives in let after = around-living w q (same ∙ lives) in let less =
        living lives in omega (arith, before, after, less)

  -- a message is taken out
  pub popped-tokens : (v u : State) (x p : ProcessId) (m : Message) → IsProcess s x → IsProcess s p → x ≢ p → v.dead p ≡ false → Popped s v u x p m
      → tokens s u t + one_if (is_token t x p m) ≤ tokens s v t
  popped-tokens v u x p m xin pin apart lives pops =
      sum-less (everyone s) (around s v t) (around s u t) p (one_if (is_token t x p m)) (within-everyone s p pin)
      (λ q there. every q (everyone-inside s q there)) here where
        link-less : (q y : ProcessId) → IsProcess s q → IsProcess s y → between u t q y ≤ between v t q y
        link-less q y qin yin = by (same-cases y x) (same-cases q p) where
          by : (y ≡ x) ⊎ (y ≢ x) → (q ≡ p) ⊎ (q ≢ p) → between u t q y ≤ between v t q y
          by (inr other) _ = let same = between-same v u q y (pops.links y q yin qin (inl other)) in omega (arith, same)
          by (inl is) (inr other) = let same = between-same v u q y (pops.links y q yin qin (inr other)) in omega (arith, same)
          by (inl is) (inl here) =
              let a = between-other u p x apart in
              let b : between v t p x ≡ one_if (is_token t x p m) + in_link t x p (u.link x p) = between-other v p x apart ∙ ap (in_link t x p) pops.first in
              subst (λ (z : ProcessId). between u t q z ≤ between v t q z) (sym is)
              (subst (λ (z : ProcessId). between u t z x ≤ between v t z x) (sym here) (omega (arith, a, b)))

        every : (q : ProcessId) → IsProcess s q → around s u t q ≤ around s v t q
        every q qin =
            let less = around-le v u q 0 (pops.dead q qin) (λ living.
            let links = sum-le (everyone s) (between v t q) (between u t q) (λ y there. link-less q y qin (everyone-inside s y there)) in
            let same = ap (at_process t) (pops.processes q qin) in
            omega (arith, links, same)) in
            omega (arith, less)

        here : around s u t p + one_if (is_token t x p m) ≤ around s v t p
        here =
            let before = around-living v p lives in
            let after = around-living u p (pops.dead p pin ∙ lives) in
            let same = ap (at_process t) (pops.processes p pin) in
            let a = between-other u p x apart in
            let b : between v t p x ≡ one_if (is_token t x p m) + in_link t x p (u.link x p) = between-other v p x apart ∙ ap (in_link t x p) pops.first in
            let links = sum-less (everyone s) (between v t p) (between u t p) x (one_if (is_token t x p m)) (within-everyone s x xin)
            (λ y there. link-less p y pin (everyone-inside s y there)) (omega (arith, a, b)) in
            omega (arith, before, after, same, links)

  -- a process makes a step
  pub acted-tokens : (v w : State) (p : ProcessId) (step : ProcessStep) → IsProcess s p → v.dead p ≡ false
      → ((q : ProcessId) → IsProcess s q → q ≢ p → v.dead q ≡ false → knows_dead step.process.known q ≡ false) → Acted s v w p step
      → tokens s w t + at_process t (v.process p) ≤ tokens s v t + at_process t step.process + in_sent t p step.sent
  acted-tokens v w p step pin lives unknown acts =
      let moved = sum-less (everyone s) allowed (around s w t) p (at_process t (v.process p)) (within-everyone s p pin)
      (λ q there. every q (everyone-inside s q there)) here in
      let one = sum-both (everyone s) (around s v t) (λ q. in_link t p q (sent_to q step.sent) + only_at p (at_process t step.process) q) in
      let two = sum-both (everyone s) (λ q. in_link t p q (sent_to q step.sent)) (only_at p (at_process t step.process)) in
      let three = sent-sum s t p step.sent in
      let four = sum-only (everyone s) p (at_process t step.process) (everyone-once s) in
      omega (arith, moved, one, two, three, four)
    where
      allowed : ProcessId → ℕ
      allowed q = around s v t q + (in_link t p q (sent_to q step.sent) + only_at p (at_process t step.process) q)

      links-in : (q : ProcessId) → IsProcess s q → q ≢ p → v.dead q ≡ false → sum_of (everyone s) (between w t q)
          ≤ sum_of (everyone s) (between v t q) + in_link t p q (sent_to q step.sent)
      links-in q qin other living =
          let grown : w.link p q ≡ v.link p q ++ sent_to q step.sent = acts.sends q qin (unknown q qin other living) in
          let c : ℕ = in_link t p q (sent_to q step.sent) in
          let less = sum-le (everyone s) (λ y. between v t q y + only_at p c y) (between w t q)
          (λ y there. each y (everyone-inside s y there) grown (same-cases y p)) in
          let split = sum-both (everyone s) (between v t q) (only_at p c) in
          let only = sum-only (everyone s) p c (everyone-once s) in
          omega (arith, less, split, only)
        where
          each : (y : ProcessId) → IsProcess s y → w.link p q ≡ v.link p q ++ sent_to q step.sent → (y ≡ p) ⊎ (y ≢ p)
              → between w t q y ≤ between v t q y + only_at p (in_link t p q (sent_to q step.sent)) y
          each y yin grown (inr apart) = let same = between-same v w q y (acts.links y q yin qin apart) in omega (arith, same)
          each y yin grown (inl is) =
              let from : p ≢ q = λ (e : p ≡ q). other (sym e) in
              let a = between-other w q p from ∙ ap (in_link t p q) grown ∙ in-append t p q (v.link p q) (sent_to q step.sent) in
              let b = between-other v q p from in
              let here = only-here p y (in_link t p q (sent_to q step.sent)) is in
              let a_y = ap (between w t q) is in
              let b_y = ap (between v t q) is in
              omega (arith, a, b, here, a_y, b_y)

      links-here : sum_of (everyone s) (between w t p) ≤ sum_of (everyone s) (between v t p)
      links-here = sum-le (everyone s) (between v t p) (between w t p) (λ y there. each y (everyone-inside s y there) (same-cases y p)) where
        each : (y : ProcessId) → IsProcess s y → (y ≡ p) ⊎ (y ≢ p) → between w t p y ≤ between v t p y
        each y yin (inl is) = let none = between-self w p y is in omega (arith, none)
        each y yin (inr apart) = let same = between-same v w p y (acts.links y p yin pin apart) in omega (arith, same)

      here : around s w t p + at_process t (v.process p) ≤ allowed p
      here =
          let before = around-living v p lives in
          let after = around-living w p (acts.dead p pin ∙ lives) in
          let now = ap (at_process t) acts.process in
          let only = only-here p p (at_process t step.process) refl in
          let links = links-here in
          omega (arith, before, after, now, only, links)

      every : (q : ProcessId) → IsProcess s q → around s w t q ≤ allowed q
      every q qin = by (same-cases q p) where
        by : (q ≡ p) ⊎ (q ≢ p) → around s w t q ≤ allowed q
        by (inl is) = subst (λ (z : ProcessId). around s w t z ≤ allowed z) (sym is) (let at_p = here in omega (arith, at_p))
        by (inr other) =
            let less = around-le v w q (in_link t p q (sent_to q step.sent)) (acts.dead q qin) (λ living.
            let links = links-in q qin other living in
            let same = ap (at_process t) (acts.others q qin other) in
            omega (arith, links, same)) in
            omega (arith, less)

  -- a process dies
  pub died-tokens : (v w : State) (p : ProcessId) (keep : ℕ) → IsProcess s p → Died s v w p keep → tokens s w t ≤ tokens s v t
  died-tokens v w p keep pin died = sum-le (everyone s) (around s v t) (around s w t) (λ q there. every q (everyone-inside s q there) (same-cases q p)) where
    links : (q y : ProcessId) → IsProcess s q → IsProcess s y → (y ≡ p) ⊎ (y ≢ p) → between w t q y ≤ between v t q y
    links q y qin yin (inr other) = let same = between-same v w q y (died.links y q yin qin other) in omega (arith, same)
    links q y qin yin (inl is) = by (same-cases y q) where
      by : (y ≡ q) ⊎ (y ≢ q) → between w t q y ≤ between v t q y
      by (inl self) = let none = between-self w q y self in omega (arith, none)
      by (inr apart) =
          let cut : w.link y q ≡ take keep (v.link y q) ++ tells.Notice p ∷ [] =
          subst (λ (z : ProcessId). w.link z q ≡ take keep (v.link z q) ++ tells.Notice p ∷ []) (sym is)
          (died.cut q qin) in
          let a = between-other w q y apart ∙ ap (in_link t y q) cut ∙ in-append t y q (take keep (v.link y q)) (tells.Notice p ∷ []) in
          let b = between-other v q y apart in
          let less = in-take t y q keep (v.link y q) in
          omega (arith, a, b, less)

    every : (q : ProcessId) → IsProcess s q → (q ≡ p) ⊎ (q ≢ p) → around s w t q ≤ around s v t q
    every q qin (inl is) = let none = around-dead w q (ap w.dead is ∙ died.dead) in omega (arith, none)
    every q qin (inr other) =
        let less = around-le v w q 0 (died.others q qin other) (λ living.
        let sums = sum-le (everyone s) (between v t q) (between w t q) (λ y there. links q y qin (everyone-inside s y there) (same-cases y p)) in
        let same = ap (at_process t) (died.processes q qin) in
        omega (arith, sums, same)) in
        omega (arith, less)

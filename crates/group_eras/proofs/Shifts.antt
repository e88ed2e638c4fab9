-- An op on an item whose cas number is told with a base comes to what it comes to in the era, told with the base.
use Rattle.std.proofs.Common.{ℕ, ◌≡◌, ◌≢◌, ◌≤◌, ◌==◌, nat_le, nat_lt, Bool, true, false, List, ◌++◌, length, Option}
use Rattle.std.proofs.Common.{Some, None, if◌then◌else◌, ◌⊎◌, inl, inr, refl, sym, ap, ◌∙◌, arith}
use Rattle.std.proofs.lemmas.Bool.{cases_eq, eq-eqb, ne_eqb}
use Rattle.std.proofs.lemmas.Grind.{common_steps}
use Rattle.memc_table.specs.Expiry.{is_live, live_at}
use Rattle.memc_table.specs.Numeral.{number_of}
use Rattle.memc_table.specs.Ruling.{joined, longest_value, lowered, raised, ruling_of}
use Rattle.memc_table.specs.declared.act.Act.{Act}
use Rattle.memc_table.specs.declared.act.Act.TheVariants.{Add, Append, Cas, Decr, Delete, Get, Incr, Prepend, Replace, Set, Touch}
use Rattle.memc_table.specs.declared.holding.Holding.{Holding}
use Rattle.memc_table.specs.declared.reply.Reply.TheVariants as reply
use Rattle.memc_table.specs.declared.ruling.Ruling.{Ruling}
use Rattle.memc_table.specs.declared.ruling.Ruling.TheVariants.{Accepted, Refused}
use Rattle.group_eras.specs.Told.{Bases, based_reply, with_base, with_cas, without_base}

-- an item has a cas number above 0
abbrev pub HasCas : Option Holding → Type 0
HasCas None = Unit {0}
HasCas (Some h) = 1 ≤ h.item.cas

abbrev pub LeavesCas : Ruling → Type 0
LeavesCas (Refused reply) = Unit {0}
LeavesCas (Accepted reply leaves) = HasCas leaves

-- the act is a set
abbrev pub IsSet : Act → Type 0
IsSet (Set _ _ _ _) = Unit {0}
IsSet _ = ⊥

module _ (bases : Bases) (d : ℕ) where
  abbrev pub shifted : Holding → Holding
  shifted h = record { item = record { flags = h.item.flags; cas = with_base bases d h.item.cas; value = h.item.value }; until = h.until }

  abbrev pub shift : Option Holding → Option Holding
  shift None = None
  shift (Some h) = Some (shifted h)

  abbrev pub shift_ruling : Ruling → Ruling
  shift_ruling (Refused reply) = Refused (based_reply bases d reply)
  shift_ruling (Accepted reply leaves) = Accepted reply (shift leaves)

  -- an item over all eras, and in the current one: the same but for the base, or dead at every moment and unknown
  pub data Same (x y : Option Holding) : Type 0 where
    Alike : x ≡ shift y → HasCas y → Same x y
    Gone : (h : Holding) → x ≡ Some h → h.until ≡ Some 0 → y ≡ None → Same x y

  pub shift-live : (t : ℕ) (y : Option Holding) → live_at t (shift y) ≡ shift (live_at t y)
  shift-live t None = refl
  shift-live t (Some h) = by (is_live t h.until) where
    by : (b : Bool) → (if b then Some (shifted h) else None) ≡ shift (if b then Some h else None)
    by true = refl
    by false = refl

  pub cas-live : (t : ℕ) (y : Option Holding) → HasCas y → HasCas (live_at t y)
  cas-live t None has = tt
  cas-live t (Some h) has = by (is_live t h.until) where
    by : (b : Bool) → HasCas (if b then Some h else None)
    by true = has
    by false = tt

  none-before-0 : (t : ℕ) → nat_lt t 0 ≡ false
  none-before-0 t = grind (arith, common_steps)

  pub dead-live : (t : ℕ) (h : Holding) → h.until ≡ Some 0 → live_at t (Some h) ≡ None
  dead-live t h ends =
      let dead : is_live t h.until ≡ false = ap (is_live t) ends ∙ none-before-0 t in
      ap (λ (b : Bool). if b then Some h else None) dead

  pub same-live : (t : ℕ) (x y : Option Holding) → Same x y → live_at t x ≡ shift (live_at t y)
  same-live t x y (Alike is has) = ap (live_at t) is ∙ shift-live t y
  same-live t x y (Gone h is ends none) = ap (live_at t) is ∙ dead-live t h ends ∙ sym (ap (λ (o : Option Holding). shift (live_at t o)) none)

  -- a cas number that comes in
  cas-same : (n cas : ℕ) → 1 ≤ n → (with_base bases d n == cas) ≡ (n == without_base bases d cas)
  cas-same n cas some = by (cases_eq n (without_base bases d cas)) where
    by : (n ≡ without_base bases d cas) ⊎ (n ≢ without_base bases d cas) → (with_base bases d n == cas) ≡ (n == without_base bases d cas)
    by (inl is) = eq-eqb (with_base bases d n) cas (omega (arith, is, some)) ∙ sym (eq-eqb n (without_base bases d cas) is)
    by (inr other) = ne_eqb (with_base bases d n) cas (λ same. other (omega (arith, same, some))) ∙ sym (ne_eqb n (without_base bases d cas) other)

  joined-shift : (n : ℕ) (h : Holding) (value : List ℕ) → joined (with_base bases d n) (shifted h) value ≡ shift_ruling (joined n h value)
  joined-shift n h value = by (nat_le (length value) longest_value) where
    long : Holding
    long = record { item = record { flags = h.item.flags; cas = n; value = value }; until = h.until }

    by : (b : Bool) → (if b then Accepted reply.Stored (Some (shifted long)) else Refused reply.TooLarge)
        ≡ shift_ruling (if b then Accepted reply.Stored (Some long) else Refused reply.TooLarge)
    by true = refl
    by false = refl

  raised-shift : (n : ℕ) (h : Holding) (by : ℕ) (o : Option ℕ) → raised (with_base bases d n) (shifted h) by o ≡ shift_ruling (raised n h by o)
  raised-shift n h by None = refl
  raised-shift n h by (Some v) = refl

  lowered-shift : (n : ℕ) (h : Holding) (by : ℕ) (o : Option ℕ) → lowered (with_base bases d n) (shifted h) by o ≡ shift_ruling (lowered n h by o)
  lowered-shift n h by None = refl
  lowered-shift n h by (Some v) = refl

  -- what comes of an act as it was asked is what comes of it in the era
  pub ruling-shift : (t n : ℕ) (act : Act) (y : Option Holding) → HasCas y
      → ruling_of t (with_base bases d n) act (shift y) ≡ shift_ruling (ruling_of t n (with_cas (without_base bases d) act) y)
  ruling-shift t n (Get key) None has = refl
  ruling-shift t n (Get key) (Some h) has = refl
  ruling-shift t n (Set key flags expiry value) None has = refl
  ruling-shift t n (Set key flags expiry value) (Some h) has = refl
  ruling-shift t n (Add key flags expiry value) None has = refl
  ruling-shift t n (Add key flags expiry value) (Some h) has = refl
  ruling-shift t n (Replace key flags expiry value) None has = refl
  ruling-shift t n (Replace key flags expiry value) (Some h) has = refl
  ruling-shift t n (Cas key flags expiry cas value) None has = refl
  ruling-shift t n (Cas key flags expiry cas value) (Some h) has =
      ap (λ (b : Bool). if b then ruling_of t (with_base bases d n) (Set key flags expiry value) None else Refused reply.Exists) (cas-same h.item.cas cas has)
      ∙ by (h.item.cas == without_base bases d cas)
    where
      by : (b : Bool) → (if b then ruling_of t (with_base bases d n) (Set key flags expiry value) None else Refused reply.Exists)
          ≡ shift_ruling (if b then ruling_of t n (Set key flags expiry value) None else Refused reply.Exists)
      by true = refl
      by false = refl
  ruling-shift t n (Delete key) None has = refl
  ruling-shift t n (Delete key) (Some h) has = refl
  ruling-shift t n (Touch key expiry) None has = refl
  ruling-shift t n (Touch key expiry) (Some h) has = refl
  ruling-shift t n (Append key value) None has = refl
  ruling-shift t n (Append key value) (Some h) has = joined-shift n h (h.item.value ++ value)
  ruling-shift t n (Prepend key value) None has = refl
  ruling-shift t n (Prepend key value) (Some h) has = joined-shift n h (value ++ h.item.value)
  ruling-shift t n (Incr key by) None has = refl
  ruling-shift t n (Incr key by) (Some h) has = raised-shift n h by (number_of h.item.value)
  ruling-shift t n (Decr key by) None has = refl
  ruling-shift t n (Decr key by) (Some h) has = lowered-shift n h by (number_of h.item.value)

  -- a set comes to the same on any item
  pub set-shift : (t n : ℕ) (act : Act) (x y : Option Holding) → IsSet act → ruling_of t (with_base bases d n) act x
      ≡ shift_ruling (ruling_of t n (with_cas (without_base bases d) act) y)
  set-shift t n (Set key flags expiry value) x y set = refl
  set-shift t n (Get key) x y set = absurd set
  set-shift t n (Add key flags expiry value) x y set = absurd set
  set-shift t n (Replace key flags expiry value) x y set = absurd set
  set-shift t n (Cas key flags expiry cas value) x y set = absurd set
  set-shift t n (Delete key) x y set = absurd set
  set-shift t n (Touch key expiry) x y set = absurd set
  set-shift t n (Append key value) x y set = absurd set
  set-shift t n (Prepend key value) x y set = absurd set
  set-shift t n (Incr key by) x y set = absurd set
  set-shift t n (Decr key by) x y set = absurd set

-- what an accepted act leaves has a cas number
joined-cas : (n : ℕ) (h : Holding) (value : List ℕ) → 1 ≤ n → LeavesCas (joined n h value)
joined-cas n h value some = by (nat_le (length value) longest_value) where
  by : (b : Bool)
      → LeavesCas (if b then Accepted reply.Stored
      (Some (record { item = record { flags = h.item.flags; cas = n; value = value }; until = h.until })) else Refused
      reply.TooLarge)
  by true = some
  by false = tt

raised-cas : (n : ℕ) (h : Holding) (by : ℕ) (o : Option ℕ) → 1 ≤ n → LeavesCas (raised n h by o)
raised-cas n h by None some = tt
raised-cas n h by (Some v) some = some

lowered-cas : (n : ℕ) (h : Holding) (by : ℕ) (o : Option ℕ) → 1 ≤ n → LeavesCas (lowered n h by o)
lowered-cas n h by None some = tt
lowered-cas n h by (Some v) some = some

pub ruling-cas : (t n : ℕ) (act : Act) (y : Option Holding) → 1 ≤ n → HasCas y → LeavesCas (ruling_of t n act y)
ruling-cas t n (Get key) None some has = tt
ruling-cas t n (Get key) (Some h) some has = tt
ruling-cas t n (Set key flags expiry value) None some has = some
ruling-cas t n (Set key flags expiry value) (Some h) some has = some
ruling-cas t n (Add key flags expiry value) None some has = some
ruling-cas t n (Add key flags expiry value) (Some h) some has = tt
ruling-cas t n (Replace key flags expiry value) None some has = tt
ruling-cas t n (Replace key flags expiry value) (Some h) some has = some
ruling-cas t n (Cas key flags expiry cas value) None some has = tt
ruling-cas t n (Cas key flags expiry cas value) (Some h) some has = by (h.item.cas == cas) where
  by : (b : Bool) → LeavesCas (if b then ruling_of t n (Set key flags expiry value) None else Refused reply.Exists)
  by true = some
  by false = tt
ruling-cas t n (Delete key) None some has = tt
ruling-cas t n (Delete key) (Some h) some has = tt
ruling-cas t n (Touch key expiry) None some has = tt
ruling-cas t n (Touch key expiry) (Some h) some has = has
ruling-cas t n (Append key value) None some has = tt
ruling-cas t n (Append key value) (Some h) some has = joined-cas n h (h.item.value ++ value) some
ruling-cas t n (Prepend key value) None some has = tt
ruling-cas t n (Prepend key value) (Some h) some has = joined-cas n h (value ++ h.item.value) some
ruling-cas t n (Incr key by) None some has = tt
ruling-cas t n (Incr key by) (Some h) some has = raised-cas n h by (number_of h.item.value) some
ruling-cas t n (Decr key by) None some has = tt
ruling-cas t n (Decr key by) (Some h) some has = lowered-cas n h by (number_of h.item.value) some

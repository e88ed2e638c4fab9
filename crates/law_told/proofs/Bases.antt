-- A base is the number of updates that earlier eras have logged.
use Rattle.std.proofs.Common.{ℕ, ◌≡◌, ◌<◌, ◌≤◌, ◌+◌, ◌==◌, nat_lt, Bool, true, false, cond, List, [], ◌∷◌, ◌++◌, map}
use Rattle.std.proofs.Common.{if◌then◌else◌, refl, sym, ap, subst, ◌∙◌, arith}
use Rattle.std.specs.Prelude.{filter}
use Rattle.std.proofs.lemmas.Grind.{common_steps}
use Rattle.std.proofs.lemmas.List.{append-nil, length-replicate}
use Rattle.group_types.specs.Each.{Each}
use Rattle.group_types.specs.Hash.{home_of}
use Rattle.group_types.specs.Lists.{at}
use Rattle.memc_table.specs.Act.{key_of}
use Rattle.memc_table.specs.Contents.{empty_table}
use Rattle.memc_table.specs.declared.reply.Reply.{Reply}
use Rattle.memc_table.specs.declared.reply.Reply.TheVariants as reply
use Rattle.group_calls.specs.Log.{IsLegal}
use Rattle.group_calls.specs.Turns.{accepts}
use Rattle.group_calls.specs.declared.entry.Entry.{Entry}
use Rattle.group_calls.specs.declared.event.Event.{Event}
use Rattle.group_run.specs.Meaning.{is_update_of}
use Rattle.group_run.specs.World.{World}
use Rattle.group_eras.specs.Eras.{EraEntry, Eras}
use Rattle.group_eras.specs.Promise.{AreTold, TellsEntry, one_log}
use Rattle.group_eras.specs.Told.{Bases, based_reply, without_base}
use Rattle.group_eras.proofs.Joins.{key-cas}
use Rattle.group_eras.proofs.Lists.{map-both}
use Rattle.group_eras.proofs.Standing.{Stands}
use Rattle.law_told.specs.Eras.{earlier, updates_among}
use Rattle.law_told.proofs.Counts.{among-append, counted, one_if}

-- entries of earlier eras are kept, and those of the current one aren't
abbrev is_earlier : ℕ → EraEntry → Bool
is_earlier era x = nat_lt x.0 era

kept-earlier : (era : ℕ) (xs : List EraEntry) → Each (λ x. x.0 < era) xs → filter (is_earlier era) xs ≡ xs
kept-earlier era [] all = refl
kept-earlier era (x ∷ xs) all =
    let low : nat_lt x.0 era ≡ true = (let less = all.0 in grind (arith, common_steps)) in
    ap (λ (b : Bool). cond b (x ∷ filter (is_earlier era) xs) (filter (is_earlier era) xs)) low
    ∙ ap (λ (ys : List EraEntry). x ∷ ys) (kept-earlier era xs all.1)

left-out : (bases : Bases) (k : ℕ) (asked : List Event) (era : ℕ) (xs : List Entry) (ys : List EraEntry)
    → AreTold bases k asked era xs ys → filter (is_earlier era) ys ≡ []
left-out bases k asked era [] [] told = refl
left-out bases k asked era [] (y ∷ ys) told = absurd told
left-out bases k asked era (x ∷ xs) [] told = absurd told
left-out bases k asked era (x ∷ xs) (y ∷ ys) told =
    let same : y.0 ≡ era = told.0 in
    let high : nat_lt y.0 era ≡ false = grind (arith, common_steps) in
    ap (λ (b : Bool). cond b (y ∷ filter (is_earlier era) ys) (filter (is_earlier era) ys)) high ∙ left-out bases k asked era xs ys told.2

filter-both : (era : ℕ) (xs ys : List EraEntry) → filter (is_earlier era) (xs ++ ys) ≡ filter (is_earlier era) xs ++ filter (is_earlier era) ys
filter-both era [] ys = refl
filter-both era (x ∷ xs) ys = by (is_earlier era x) (filter-both era xs ys) where
  by : (b : Bool) → filter (is_earlier era) (xs ++ ys) ≡ filter (is_earlier era) xs ++ filter (is_earlier era) ys
      → cond b (x ∷ filter (is_earlier era) (xs ++ ys)) (filter (is_earlier era) (xs ++ ys))
      ≡ cond b (x ∷ filter (is_earlier era) xs) (filter (is_earlier era) xs) ++ filter (is_earlier era) ys
  by true rest = ap (λ (zs : List EraEntry). x ∷ zs) rest
  by false rest = rest

-- a reply is told as accepted where it is
accepts-told : (bases : Bases) (d : ℕ) (r : Reply) → accepts (based_reply bases d r) ≡ accepts r
accepts-told bases d (reply.Value item) = refl
accepts-told bases d r = refl

same-update : (bases : Bases) (k d : ℕ) (asked : List Event) (x y : Entry) → TellsEntry bases k asked x y → is_update_of k d y ≡ is_update_of k d x
same-update bases k d asked x y tells =
    let key : List ℕ = key_of y.op.act in
    ap (λ (r : Reply). if accepts r then home_of key k == d else false) tells.reply
    ∙ ap (λ (b : Bool). if b then home_of key k == d else false) (accepts-told bases (home_of key k) x.reply)
    ∙ ap (λ (other : List ℕ). if accepts x.reply then home_of other k == d else false)
    (sym (key-cas (without_base bases (home_of key k)) y.op.act) ∙ sym (ap (λ (o : _). key_of o.act) tells.op))

same-updates : (bases : Bases) (k d : ℕ) (asked : List Event) (era : ℕ) (xs : List Entry) (ys : List EraEntry)
    → AreTold bases k asked era xs ys → updates_among k d (map (λ y. y.1) ys) ≡ updates_among k d xs
same-updates bases k d asked era [] [] told = refl
same-updates bases k d asked era [] (y ∷ ys) told = absurd told
same-updates bases k d asked era (x ∷ xs) [] told = absurd told
same-updates bases k d asked era (x ∷ xs) (y ∷ ys) told =
    let one : one_if (is_update_of k d y.1) ≡ one_if (is_update_of k d x) = ap one_if (same-update bases k d asked x y.1 told.1) in
    let rest = same-updates bases k d asked era xs ys told.2 in
    omega (arith, one, rest)

module _ (e : Eras) (stands : Stands e) where
  abbrev k : ℕ
  k = e.world.shape.k

  some : 1 ≤ e.world.shape.k
  some = stands.era.run.0.k.0

  before-is : earlier e ≡ map (λ x. x.1) stands.era.before
  before-is = ap (map (λ x. x.1))
      (ap (filter (is_earlier e.era)) stands.era.log
      ∙ filter-both e.era stands.era.before stands.era.own
      ∙ ap (λ (zs : List EraEntry). filter (is_earlier e.era) stands.era.before ++ zs)
      (left-out e.bases k stands.era.asked e.era e.world.log stands.era.own stands.era.told)
      ∙ append-nil (filter (is_earlier e.era) stands.era.before)
      ∙ kept-earlier e.era stands.era.before stands.era.earlier)

  pub log-is : one_log e ≡ earlier e ++ map (λ x. x.1) stands.era.own
  log-is = ap (map (λ x. x.1)) stands.era.log ∙ map-both (λ x. x.1) stands.era.before stands.era.own
      ∙ ap (λ (es : List Entry). es ++ map (λ x. x.1) stands.era.own) (sym before-is)

  own-legal : IsLegal e.world.shape.k e.world.log
  own-legal = subst (λ (w : World). IsLegal e.world.shape.k w.log) (sym stands.era.stands) stands.era.headline.one_log.legal

  pub base-is : (d : ℕ) → d < e.world.shape.k → at 0 e.bases d ≡ updates_among e.world.shape.k d (earlier e)
  base-is d below =
      let joined = (stands.joined some).counts d below in
      let over = counted k some (empty_table k) (one_log e) d stands.legal (length-replicate k 0) below in
      let own = counted k some (empty_table k) e.world.log d own-legal (length-replicate k 0) below in
      let split = ap (updates_among k d) log-is ∙ among-append k d (earlier e) (map (λ x. x.1) stands.era.own) in
      let same = same-updates e.bases k d stands.era.asked e.era e.world.log stands.era.own stands.era.told in
      omega (arith, joined, over, own, split, same)

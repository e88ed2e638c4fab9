-- Pings and pongs along runs: who answers a ping that was sent by a member after it failed has failed too.
use Rattle.std.proofs.Common.{ℕ, suc, ◌≡◌, ◌≢◌, ◌<◌, ◌≤◌, nat_le, Bool, true, false, List, [], ◌∷◌, ◌++◌, refl, ap, subst, arith}
use Rattle.std.proofs.lemmas.Grind.{common_steps}
use Rattle.group_types.specs.Dimensions.{Dimensions}
use Rattle.group_types.specs.Each.{Each}
use Rattle.group_types.specs.declared.process.ProcessId.{ProcessId}
use Rattle.group_types.proofs.Eaches.{each-append, each-weaker}
use Rattle.group_wire.specs.Actions.{Action, Begin, Send, Read, Treat, Collect, Flush, Learn, Receive, GiveUp, Cut, Say}
use Rattle.group_wire.specs.Actions.{Hear, Permit, Take, Ping, Pong, Count, Show, LetGo, Stop}
use Rattle.group_wire.specs.Composed.{Composed, failed_after, lived_after}
use Rattle.group_wire.specs.May.{MayAct}
use Rattle.group_wire.specs.Sets.{Processes, either, nobody, one_or, with_one}
use Rattle.group_wire.specs.State.{Signs, opening_group}
use Rattle.group_wire.specs.Stepping.{answered_first, counted_first, signs_after}
use Rattle.group_wire.proofs.Barrier.{Barred}
use Rattle.group_wire.proofs.Changes.{changed-each, changed-here, changed-pairs, either-left, one_or-is}

-- x may have answered ping j of g: it was sent, and if g had failed by then x has failed too
pub record Answers (pinged : ProcessId → ℕ) (failed : Processes) (lived : ProcessId → ℕ) (g x : ProcessId) (j : ℕ) : Type 0 where
  pub sent : j < pinged g
  pub fails : failed g ≡ true → lived g ≤ j → failed x ≡ true

-- what holds of pings and pongs
pub record Signed (signs : Signs) (failed : Processes) (lived : ProcessId → ℕ) : Type 0 where
  pub pings : (g x : ProcessId) → Each (λ j. j < signs.pinged g) (signs.pings g x)
  pub pongs : (x g : ProcessId) → Each (Answers signs.pinged failed lived g x) (signs.pongs x g)
  pub answered : (g x : ProcessId) (j : ℕ) → signs.answered g j x ≡ true → Answers signs.pinged failed lived g x j × (x ≢ g)

pub signed-opening : (s : Dimensions) → Signed (opening_group s).signs nobody (λ p. 0)
signed-opening s = record { pings = λ g x. tt; pongs = λ x g. tt; answered = λ g x j is. cc is }

le-is : (a b : ℕ) → nat_le a b ≡ true → a ≤ b
le-is a b is = grind (arith, common_steps)

module _ (s : Dimensions) (signs : Signs) (cut : ProcessId → Processes) (failed : Processes) (lived : ProcessId → ℕ) (b : Signed signs failed lived) where
  -- a member sends a ping
  signed-ping : (to : Processes) (p : ProcessId) → Signed (signs_after cut signs (Ping to p)) failed lived
  signed-ping to p = record {
    pings = λ g x. changed-each (λ g row. Each (λ j. j < more g) (row x)) signs.pings p
        (λ q. one_or (cut p q) (signs.pings p q) (signs.pings p q ++ one_or (to q) (signs.pinged p ∷ []) []))
        (one_or-is (Each (λ j. j < more p)) (cut p x) (signs.pings p x) (signs.pings p x ++ one_or (to x) (signs.pinged p ∷ []) []) (λ _. old p x)
        (λ _. each-append (λ j. j < more p) (signs.pings p x) (one_or (to x) (signs.pinged p ∷ []) []) (old p x)
        (one_or-is (Each (λ j. j < more p)) (to x) (signs.pinged p ∷ []) [] (λ _. (last, tt)) (λ _. tt))))
        (λ g _. old g x) g;
    pongs = λ x g. each-weaker (Answers signs.pinged failed lived g x)
        (Answers (signs_after cut signs (Ping to p)).pinged failed lived g x) (later g x) (signs.pongs x g)
        (b.pongs x g);
    answered = λ g x j is. (later g x j (b.answered g x j is).0, (b.answered g x j is).1);
  } where
    more : ProcessId → ℕ
    more = (signs_after cut signs (Ping to p)).pinged

    rises : (g : ProcessId) → signs.pinged g ≤ (signs_after cut signs (Ping to p)).pinged g
    rises = changed-each (λ g n. signs.pinged g ≤ n) signs.pinged p (suc (signs.pinged p)) (omega arith) (λ g _. omega arith)

    last : signs.pinged p < (signs_after cut signs (Ping to p)).pinged p
    last = let is : (signs_after cut signs (Ping to p)).pinged p ≡ suc (signs.pinged p) =
        changed-here signs.pinged p (suc (signs.pinged p)) in omega (arith, is)

    old : (g x : ProcessId) → Each (λ j. j < (signs_after cut signs (Ping to p)).pinged g) (signs.pings g x)
    old g x = each-weaker (λ j. j < signs.pinged g) (λ j. j < (signs_after cut signs (Ping to p)).pinged g)
        (λ j low. let up = rises g in omega (arith, low, up)) (signs.pings g x) (b.pings g x)

    later : (g x : ProcessId) (j : ℕ) → Answers signs.pinged failed lived g x j → Answers (signs_after cut signs (Ping to p)).pinged failed lived g x j
    later g x j a = record { sent = let low = a.sent in let up = rises g in omega (arith, low, up); fails = a.fails }

  -- a member answers a ping of another that it hasn't cut
  signed-pong : (x p : ProcessId) → ((lives : failed p ≡ false) → failed x ≡ true → ⊥) → (list : List ℕ)
      → signs.pings x p ≡ list → Signed (answered_first cut x p list signs) failed lived
  signed-pong x p uncut [] is = b
  signed-pong x p uncut (j ∷ rest) is = record {
    pings = changed-pairs (λ g y js. Each (λ j. j < signs.pinged g) js) signs.pings x p rest here.1 b.pings;
    pongs = changed-pairs (λ y g js. Each (Answers signs.pinged failed lived g y) js) signs.pongs p x
        (one_or (cut p x) (signs.pongs p x) (signs.pongs p x ++ j ∷ []))
        (one_or-is (Each (Answers signs.pinged failed lived x p)) (cut p x) (signs.pongs p x) (signs.pongs p x ++ j ∷ []) (λ _. b.pongs p x)
        (λ _. each-append (Answers signs.pinged failed lived x p) (signs.pongs p x) (j ∷ []) (b.pongs p x) (answer, tt)))
        b.pongs;
    answered = b.answered;
  } where
    here : Each (λ j. j < signs.pinged x) (j ∷ rest)
    here = subst (Each (λ j. j < signs.pinged x)) is (b.pings x p)

    by : (lost : Bool) → failed p ≡ lost → failed x ≡ true → failed p ≡ true
    by true is fails = is
    by false is fails = absurd (uncut is fails)

    answer : Answers signs.pinged failed lived x p j
    answer = record { sent = here.0; fails = λ fails late. by (failed p) refl fails }

  -- a member counts a pong of another
  signed-count : (x p : ProcessId) → x ≢ p → (list : List ℕ) → signs.pongs x p ≡ list → Signed (counted_first x p list signs) failed lived
  signed-count x p other [] is = b
  signed-count x p other (j ∷ rest) is = record {
    pings = b.pings;
    pongs = changed-pairs (λ y g js. Each (Answers signs.pinged failed lived g y) js) signs.pongs x p rest here.1 b.pongs;
    answered = λ g y n. changed-each (λ g row. row n y ≡ true → Answers signs.pinged failed lived g y n × (y ≢ g))
        signs.answered p (λ i. one_or (nat_le i j) (with_one (signs.answered p i) x) (signs.answered p i))
        (one_or-is (λ set. set y ≡ true → Answers signs.pinged failed lived p y n × (y ≢ p)) (nat_le n j) (with_one (signs.answered p n) x) (signs.answered p n)
        (λ low. changed-each (λ y is. is ≡ true → Answers signs.pinged failed lived p y n × (y ≢ p))
        (signs.answered p n) x true (λ _. (earlier n (le-is n j low), other)) (λ y _ is. b.answered p y n is) y)
        (λ _ is. b.answered p y n is))
        (λ g _ is. b.answered g y n is) g;
  } where
    here : Each (Answers signs.pinged failed lived p x) (j ∷ rest)
    here = subst (Each (Answers signs.pinged failed lived p x)) is (b.pongs x p)

    -- it answers the pings before it too
    earlier : (i : ℕ) → i ≤ j → Answers signs.pinged failed lived p x i
    earlier i low = record { sent = let sent = here.0.sent in omega (arith, low, sent); fails = λ fails late. here.0.fails fails (omega (arith, low, late)) }

  -- more fail: pings that were sent before stand, since they were sent by then
  signed-fail : (set : Processes) → Signed signs (either failed set) (λ x. one_or (failed x) (lived x) (signs.pinged x))
  signed-fail set = record {
    pings = b.pings;
    pongs = λ x g. each-weaker (Answers signs.pinged failed lived g x)
        (Answers signs.pinged (either failed set) (λ x. one_or (failed x) (lived x) (signs.pinged x)) g x) (stands g x)
        (signs.pongs x g) (b.pongs x g);
    answered = λ g x j is. (stands g x j (b.answered g x j is).0, (b.answered g x j is).1);
  } where
    by : (g x : ProcessId) (j : ℕ) (lost : Bool) → failed g ≡ lost → Answers signs.pinged failed lived g x j
        → one_or lost (lived g) (signs.pinged g) ≤ j → either failed set x ≡ true
    by g x j true is a late = either-left failed set x (a.fails is late)
    by g x j false is a late = let sent = a.sent in absurd (omega (arith, sent, late))

    stands : (g x : ProcessId) (j : ℕ) → Answers signs.pinged failed lived g x j
        → Answers signs.pinged (either failed set) (λ x. one_or (failed x) (lived x) (signs.pinged x)) g x j
    stands g x j a = record { sent = a.sent; fails = λ _ late. by g x j (failed g) refl a late }

  -- nobody fails, and those who hadn't have sent as many as they have
  signed-still : Signed signs failed (λ x. one_or (failed x) (lived x) (signs.pinged x))
  signed-still = record {
    pings = b.pings;
    pongs = λ x g. each-weaker (Answers signs.pinged failed lived g x)
        (Answers signs.pinged failed (λ x. one_or (failed x) (lived x) (signs.pinged x)) g x) (stands g x)
        (signs.pongs x g) (b.pongs x g);
    answered = λ g x j is. (stands g x j (b.answered g x j is).0, (b.answered g x j is).1);
  } where
    stands : (g x : ProcessId) (j : ℕ) → Answers signs.pinged failed lived g x j
        → Answers signs.pinged failed (λ x. one_or (failed x) (lived x) (signs.pinged x)) g x j
    stands g x j a = record {
      sent = a.sent;
      fails = λ fails late. a.fails fails (subst (λ (n : ℕ). n ≤ j) (ap (λ (c : Bool). one_or c (lived g) (signs.pinged g)) fails) late);
    }

-- every action that may come keeps it
pub signed-step : (c : Composed) (a : Action) → MayAct c.group a → Barred c.group.shape c.group.words c.failed → Signed c.group.signs c.failed c.lived
    → Signed (signs_after c.group.words.cut c.group.signs a) (failed_after c a) (lived_after c a)
signed-step c (Begin caller op) may barred b = b
signed-step c (Send caller x) may barred b = b
signed-step c (Read x p) may barred b = b
signed-step c (Treat p place) may barred b = b
signed-step c (Collect caller call p) may barred b = b
signed-step c (Flush p) may barred b = b
signed-step c (Learn x p) may barred b = b
signed-step c (Receive x p) may barred b = b
signed-step c (GiveUp caller) may barred b = b
signed-step c (Cut x p) may barred b = b
signed-step c (Say p) may barred b = b
signed-step c (Hear x p) may barred b = b
signed-step c (Take x p) may barred b = b
signed-step c (Show caller ping) may barred b = b
signed-step c (LetGo caller) may barred b = b
signed-step c (Stop p) may barred b = b
signed-step c (Ping to p) may barred b = signed-ping c.group.shape c.group.signs c.group.words.cut c.failed c.lived b to p
signed-step c (Pong x p) may barred b =
    signed-pong c.group.shape c.group.signs c.group.words.cut c.failed c.lived b x p
    (λ lives fails. cc (barred.cut p x may.reads.here.member lives fails, may.reads.uncut)) (c.group.signs.pings x p) refl
signed-step c (Count x p) may barred b = signed-count c.group.shape c.group.signs c.group.words.cut c.failed c.lived b x
    p may.other (c.group.signs.pongs x p) refl
signed-step c (Permit p) may barred b = by (c.failed p) where
  by : (lost : Bool) → Signed c.group.signs (one_or lost c.failed (either c.failed (c.group.words.cut p)))
      (λ x. one_or (c.failed x) (c.lived x) (c.group.signs.pinged x))
  by true = signed-still c.group.shape c.group.signs c.group.words.cut c.failed c.lived b
  by false = signed-fail c.group.shape c.group.signs c.group.words.cut c.failed c.lived b (c.group.words.cut p)

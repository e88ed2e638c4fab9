-- The newest acknowledgement of a link.
use Rattle.std.proofs.Common.{ℕ, ◌≡◌, ◌≢◌, ◌==◌, Bool, true, false, List, [], ◌∷◌, ◌++◌, Option, Some, None, refl, sym, ap, subst, ◌∙◌, if◌then◌else◌, arith}
use Rattle.std.proofs.lemmas.Grind.{common_steps}
use Rattle.group_types.specs.Lists.{at}
use Rattle.group_types.specs.declared.process.ProcessId.{ProcessId}
use Rattle.group_types.specs.Each.{Each}
use Rattle.group_types.proofs.Eaches.{each-weaker}
use Rattle.group_message.specs.declared.message.Message.{Message}
use Rattle.group_message.specs.declared.message.Message.TheVariants as tells
use Rattle.group_run.specs.Applying.{Sent}
use Rattle.group_run.specs.Process.{Head, Process}
use Rattle.group_run.specs.World.{sent_to}
use Rattle.law_moves.proofs.Cores.{MaySend, SentWell}
use Rattle.law_moves.proofs.Standing.{each-sent_to}
use Rattle.law_histories.proofs.Told.{Acks, IsTold, newest, told_by}

-- the message acknowledges nothing of partition d
abbrev pub NoAck : ℕ → Message → Type 0
NoAck d (tells.Ack r e n) = e.0 ≢ d
NoAck d _ = Unit {0}

-- no message of a step does
abbrev pub Silent : ℕ → List Sent → Type 0
Silent d sent = Each (λ z. NoAck d z.message) sent

pub told-none : (d : ℕ) (o : Option ℕ) (m : Message) → NoAck d m → told_by d o m ≡ o
told-none d o (tells.Ack r e n) other = let test : (e.0 == d) ≡ false = grind (arith, common_steps) in ap (λ (b : Bool). if b then Some n else o) test
told-none d o (tells.Update r e u stable) other = refl
told-none d o (tells.Adopt r e base list) other = refl
told-none d o (tells.Stable r e n) other = refl
told-none d o (tells.ReadBlock session block rows) other = refl
told-none d o (tells.Block session bytes n) other = refl
told-none d o (tells.Mark session r block e n) other = refl
told-none d o (tells.Row session bytes stamp) other = refl
told-none d o (tells.Cease upto) other = refl
told-none d o (tells.Notice dead) other = refl

pub told-here : (d : ℕ) (o : Option ℕ) (e n : ℕ) → e ≡ d → ◌≡◌ {A = Option ℕ} (if e == d then Some n else o) (Some n)
told-here d o e n here = let test : (e == d) ≡ true = grind (arith, common_steps) in ap (λ (b : Bool). if b then Some n else o) test

pub newest-append : (d : ℕ) (o : Option ℕ) (a b : List Message) → newest d o (a ++ b) ≡ newest d (newest d o a) b
newest-append d o [] b = refl
newest-append d o (m ∷ ms) b = newest-append d (told_by d o m) ms b

pub newest-silent : (d : ℕ) (o : Option ℕ) (ms : List Message) → Each (NoAck d) ms → newest d o ms ≡ o
newest-silent d o [] none = refl
newest-silent d o (m ∷ ms) none = ap (λ (x : Option ℕ). newest d x ms) (told-none d o m none.0) ∙ newest-silent d o ms none.1

-- behind a link, where the step is silent
pub newest-sent : (d : ℕ) (q : ProcessId) (sent : List Sent) → Silent d sent → (link : List Message) (o : Option ℕ)
    → newest d o (link ++ sent_to q sent) ≡ newest d o link
newest-sent d q sent silent link o = newest-append d o link (sent_to q sent)
    ∙ newest-silent d (newest d o link) (sent_to q sent) (each-sent_to (λ to m. NoAck d m) q sent silent)

-- whoever owes no acknowledgement of the partition is silent
silent-one : (d : ℕ) (due : ProcessId → ℕ → ℕ → Type 0) (k : ℕ) (p : Process)
    → ((to : ProcessId) (r e : ℕ) → due to r e → e ≢ d) → (z : Sent) (m : Message) → MaySend due k p z.to m → NoAck d m
silent-one d due k p none z (tells.Ack r e n) may = none z.to r.0 e.0 may
silent-one d due k p none z (tells.Update r e u stable) may = tt
silent-one d due k p none z (tells.Adopt r e base list) may = tt
silent-one d due k p none z (tells.Stable r e n) may = tt
silent-one d due k p none z (tells.ReadBlock session block rows) may = tt
silent-one d due k p none z (tells.Block session bytes n) may = tt
silent-one d due k p none z (tells.Mark session r block e n) may = tt
silent-one d due k p none z (tells.Row session bytes stamp) may = tt
silent-one d due k p none z (tells.Cease upto) may = tt
silent-one d due k p none z (tells.Notice dead) may = tt

pub silent-well : (d : ℕ) (due : ProcessId → ℕ → ℕ → Type 0) (k : ℕ) (p : Process)
    → ((to : ProcessId) (r e : ℕ) → due to r e → e ≢ d) → (sent : List Sent) → SentWell due k p sent → Silent d sent
silent-well d due k p none sent well = each-weaker (λ z. MaySend due k p z.to z.message) (λ z. NoAck d z.message)
    (λ z may. silent-one d due k p none z z.message may) sent well

-- the same of equal parts
pub acks-is : (d i : ℕ) (head head' : Option Head) (rank rank' last last' : ℕ) (back back' : List Message) → head' ≡ head → rank' ≡ rank → last' ≡ last
    → ((o : Option ℕ) → newest d o back' ≡ newest d o back)
    → Acks d i head rank last back → Acks d i head' rank' last' back'
acks-is d i head head' rank rank' last last' back back' ishead isrank islast isback acks h heads same =
    subst (IsTold h.rank (newest d (at None h.acks i) back')) (sym islast)
    (subst (λ (o : Option ℕ). IsTold h.rank o last) (sym (isback (at None h.acks i))) (acks h (sym ishead ∙ heads) (sym isrank ∙ same)))

use Rattle.std.proofs.Common.{ℕ, List, Contains, refl, subst, sym}
use Rattle.parity_bytes.proofs.Ready.{still_ready}
use Rattle.parity_bytes.proofs.bytes.ParityBytesBeneath.add.Goals as goal

pub returns-clause-stays : goal.returns-clause-stays
returns-clause-stays c =
    rw (← c.self.view_is) (record {
      shape = refl;
      pages = c.apply.ensures.made;
      kept = still_ready c.self.inside.shape c.self.inside.space.made c.apply.new.self.made
          (λ b there. subst (λ (made : List ℕ). Contains made b) (sym c.apply.ensures.made) there);
    })

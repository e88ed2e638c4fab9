use Rattle.std.proofs.Common.{◌≡◌, ℕ, ◌+◌, List, ◌++◌, min, ap, ◌∙◌, subst, length, take, drop}
use Rattle.std.proofs.lemmas.List.{take_rest}
use Rattle.edge_io.specs.Memory.{Supply, input_of}
use Rattle.edge_io.specs.Moving.{GivesFront}
use Rattle.edge_io.proofs.Giving.{gives}
use Rattle.edge_io.proofs.memory_source.MemorySourceSource.read.Goals as goal

pub returns-clause-bytes : goal.returns-clause-bytes
returns-clause-bytes c =
    let s = c.self.inside in
    let n : ℕ = c.copy_front-n.result in
    let into : List ℕ = c.copy_front-n.new.into in
    let from = take_rest c.deref.result.now s.at ∙ ap (drop s.at) c.deref.ensures.value in
    let now : Supply = record {
      taken = take (s.at + n) s.bytes.items;
      left = drop (s.at + n) s.bytes.items;
      ended = c.meets_end-self-inside.result;
      piece = s.piece;
      calls = c.count_next.new.self;
    } in
    subst (λ (v : Supply). GivesFront (input_of v) (input_of now) n into) c.self.view_is
    (gives s.bytes.items s.at n s.piece s.ended c.meets_end-self-inside.result into c.self.invariant.1
    (subst (λ (bs : List ℕ). n ≡ min (min (length into) (length bs)) s.piece) from c.copy_front-n.ensures.count)
    (subst (λ (bs : List ℕ). bs ≡ take n into ++ drop n bs) from c.copy_front-n.ensures.front) c.meets_end-self-inside.ensures)

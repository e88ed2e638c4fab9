-- What a row keeps for others' sessions: a copy of a block of its code, which it freezes partition by
-- partition at the marks that come, so that all rows of a session stand at the same numbers.
use Rattle.std.specs.Prelude.{ℕ, ◌*◌, ◌==◌, nat_le, nat_lt, max, Bool, true, false, not, ◌&&◌, List, [], ◌∷◌, ◌++◌}
use Rattle.std.specs.Prelude.{take, drop, map, filter, find, unwrap_or, is_some, Option, Some, None, replicate}
use Rattle.std.specs.Prelude.{if◌then◌else◌}
use Rattle.std.specs.List.{list_all, range_with_len}
use Rattle.group_types.specs.Dimensions.{Dimensions}
use Rattle.group_types.specs.Lists.{at, put}
use Rattle.group_types.specs.declared.process.ProcessId.{ProcessId}
use Rattle.group_types.specs.declared.process.ProcessId.TheVariants.{DataNode, ParityNode}
use Rattle.membership.specs.Members.{knows_dead}
use Rattle.group_run.specs.Process.{Process, Copy}

-- the number of a parity process
abbrev pub parity_number : ProcessId → ℕ
parity_number (DataNode _) = 0
parity_number (ParityNode i) = i

-- the bytes of a block of a space
abbrev pub block_in : Dimensions → ℕ → List ℕ → List ℕ
block_in s block space = take s.block (drop (block * s.block) space)

-- the copy is of this session
abbrev pub is_copy : ℕ → ℕ → Copy → Bool
is_copy leader number copy = copy.leader == leader && copy.number == number

-- a row's copy for a session, if there is one
abbrev pub copy_in : List Copy → ℕ → ℕ → Option Copy
copy_in copies leader number = find (is_copy leader number) copies

-- the copies but the one of a session
abbrev pub without_copy : ℕ → ℕ → List Copy → List Copy
without_copy leader number copies = filter (λ c. not (is_copy leader number c)) copies

-- the copies with this one in the place of the one of its session
abbrev pub with_copy : Copy → List Copy → List Copy
with_copy copy copies = map (λ c. if is_copy copy.leader copy.number c then copy else c) copies

-- the process with other copies
abbrev pub with_copies : List Copy → Process → Process
with_copies copies p = record p { as_row = record p.as_row { copies = copies } }

-- a copy of a block as it stands, with no mark
abbrev pub new_copy : Dimensions → ℕ → ℕ → ℕ → List ℕ → Copy
new_copy s leader number block space = record { leader = leader; number = number; block = block; bytes = block_in s block space; marks = replicate s.k None }

-- the process with a copy of the block for a session that it has none for
abbrev pub copy_begun : Bool → Dimensions → ℕ → ℕ → ℕ → Process → Process
copy_begun true s leader number block p = p
copy_begun false s leader number block p = with_copies (p.as_row.copies ++ new_copy s leader number block p.space ∷ []) p

-- at the first mark of a session the row copies the block as it stands
abbrev pub begin_copy : Dimensions → ℕ → ℕ → ℕ → Process → Process
begin_copy s leader number block p = copy_begun (is_some (copy_in p.as_row.copies leader number)) s leader number block p

-- the copy with a partition marked
abbrev pub marked : ℕ → ℕ → Copy → Copy
marked d n copy = record copy { marks = put None copy.marks d (Some n) }

-- every partition is marked
abbrev pub is_marked : Dimensions → Copy → Bool
is_marked s copy = list_all (λ d. is_some (at None copy.marks d)) (range_with_len 0 s.k)

-- the numbers of the marks
abbrev pub marks_of : Dimensions → Copy → List ℕ
marks_of s copy = map (λ d. unwrap_or (at None copy.marks d) 0) (range_with_len 0 s.k)

-- a row takes a mark of its current rank, of a leader that isn't known dead and didn't cease the session
abbrev pub accepts_mark : Process → ℕ → ℕ → ℕ → ℕ → Bool
accepts_mark p leader number r d = r == at 0 p.ranks d && not (knows_dead p.known (ParityNode leader)) && nat_lt (at 0 p.as_row.ceased leader) number

-- a row forgets the copies of a leader's sessions up to a number, and takes no mark of these any more
abbrev pub copies_ceased : ℕ → ℕ → Process → Process
copies_ceased leader upto p = record p {
  as_row = record {
    copies = filter (λ c. not (c.leader == leader && nat_le c.number upto)) p.as_row.copies;
    ceased = put 0 p.as_row.ceased leader (max (at 0 p.as_row.ceased leader) upto);
  };
}

-- a row forgets a dead leader's sessions
abbrev pub leader_forgotten : ProcessId → Process → Process
leader_forgotten (DataNode _) p = p
leader_forgotten (ParityNode l) p = with_copies (filter (λ c. not (c.leader == l)) p.as_row.copies) p

-- Whom a greeting names.
use Rattle.std.specs.Prelude.{ℕ, ◌≡◌, ◌≢◌}
use Rattle.group_types.specs.Names.{IsProcess, index_of}
use Rattle.link_frames.specs.declared.hello.Hello.{Hello}
use Rattle.member_links.specs.declared.greeting.Greeting.{Greeting}

-- what is said so is said to one that greets so itself
pub record IsMeant (own : Greeting) (hello : Hello) : Type 0 where
  pub version : hello.version ≡ 1
  pub group : hello.group ≡ own.group
  pub shape : hello.shape ≡ own.shape
  pub known : IsProcess own.shape hello.to
  pub to : index_of own.shape hello.to ≡ own.own

-- another member, at this index, greets one that greets so itself
pub record Greets (own : Greeting) (hello : Hello) (x : ℕ) : Type 0 where
  pub meant : IsMeant own hello
  pub known : IsProcess own.shape hello.from
  pub from : index_of own.shape hello.from ≡ x
  pub other : x ≢ own.own

use Rattle.std.proofs.Common.{refl}
use Rattle.part_tests.proofs.Cases.{each_from}
use Rattle.part_tests.proofs.codes.order.Goals as goal

pub returns-in-0 : goal.returns-in-0
returns-in-0 c = each_from 4 _ refl refl refl

pub returns-in-1 : goal.returns-in-1
returns-in-1 c = each_from 4 _ refl refl refl

pub returns-in-2 : goal.returns-in-2
returns-in-2 c = each_from 4 _ refl refl refl

pub returns-in-3 : goal.returns-in-3
returns-in-3 c = each_from 4 _ refl refl refl

pub returns-in-4 : goal.returns-in-4
returns-in-4 c = each_from 4 _ refl refl refl

pub returns-in_default : goal.returns-in_default
returns-in_default c = each_from 4 _ refl refl refl

-- Free. A name after `<-` is looked at as one in a plain call.
use Rattle.std.proofs.Common.{◌≡◌, Bool, Option, Some, refl}
use Rattle.asm_check.specs.Names.{Meaning, NamedRule, AsRule, AsAnswering, is_known, arguments_of}
use Rattle.asm_check.specs.CallGraph.{is_call}

pub known_alike : (b : Bool) (m : Option Meaning) → is_known AsAnswering b m ≡ is_known AsRule b m
known_alike b (Some (NamedRule xs P)) = refl
known_alike b m = refl

pub counted_alike : (b : Bool) (m : Option Meaning) → arguments_of AsAnswering b m ≡ arguments_of AsRule b m
counted_alike b (Some (NamedRule xs P)) = refl
counted_alike b m = refl

pub called_alike : (m : Option Meaning) → is_call AsAnswering m ≡ is_call AsRule m
called_alike (Some (NamedRule xs P)) = refl
called_alike m = refl

-- An operation and its three numbers give each other back.
use Prim.Native.Nat.{◌≤◌}
use Rattle.std.specs.Prelude.{Some}
use mathlib.Core.Path.{◌≡◌, refl}
use native.Mathlib.Omega.{arith}
use Rattle.slots.specs.declared.Op.{Op}
use Rattle.slots.specs.declared.Op.TheVariants.{Search, Insert, Delete, Next, Regrade}
use Rattle.slots.specs.declared.Way.TheVariants.{First, Second, Third}
use Rattle.slots.specs.Operations.{highest_kind, kind_number, key_of, information_of, asked_by, first_way}

pub asked_back : (op : Op) → asked_by (kind_number op) (key_of op) (information_of op) ≡ Some op
asked_back (Search x) = refl
asked_back (Insert x v First) = refl
asked_back (Insert x v Second) = refl
asked_back (Insert x v Third) = refl
asked_back (Delete x First) = refl
asked_back (Delete x Second) = refl
asked_back (Delete x Third) = refl
asked_back (Next x) = refl
asked_back (Regrade x v First) = refl
asked_back (Regrade x v Second) = refl
asked_back (Regrade x v Third) = refl

pub kind_within : (op : Op) → kind_number op ≤ highest_kind
kind_within (Search x) = omega arith
kind_within (Insert x v First) = omega arith
kind_within (Insert x v Second) = omega arith
kind_within (Insert x v Third) = omega arith
kind_within (Delete x First) = omega arith
kind_within (Delete x Second) = omega arith
kind_within (Delete x Third) = omega arith
kind_within (Next x) = omega arith
kind_within (Regrade x v First) = omega arith
kind_within (Regrade x v Second) = omega arith
kind_within (Regrade x v Third) = omega arith

-- by the first way the key and the information are the same
pub first_key : (op : Op) → key_of (first_way op) ≡ key_of op
first_key (Search x) = refl
first_key (Insert x v way) = refl
first_key (Delete x way) = refl
first_key (Next x) = refl
first_key (Regrade x v way) = refl

pub first_information : (op : Op) → information_of (first_way op) ≡ information_of op
first_information (Search x) = refl
first_information (Insert x v way) = refl
first_information (Delete x way) = refl
first_information (Next x) = refl
first_information (Regrade x v way) = refl

-- The certificate list of a seal and of a signature record: where it stands, and its fields. Assumes nothing.
use Rattle.std.specs.Prelude.{Bool, List, [], ◌∷◌}
use Rattle.terms.specs.declared.Field.{Field}
use Rattle.terms.specs.declared.Field.TheVariants.{CertificateList, ListKind, ListedCertificate, ListedDigest}
use Rattle.layouts.specs.Layout.{Members, Values, Oks}
use Rattle.layouts.specs.Fields.{fields}
use Rattle.layouts.specs.Whole.{record_of}
use Rattle.layouts.proofs.Laws.Each.{passes}
use Rattle.layouts.proofs.Laws.Way.{Way, here, beyond, in_tag, Holds, held_in}
use Rattle.records.specs.declared.Record.{Record}
use Rattle.records.specs.declared.Record.TheVariants.{Seal, Signature}
use Rattle.records.specs.Record.{kind_and_list, property, seal}
use Rattle.records.specs.Handing.{layout_of, is_one_of}

-- the names of its fields that are asked for
abbrev pub list_fields : List Field
list_fields = ListKind ∷ CertificateList ∷ ListedCertificate ∷ ListedDigest ∷ []

abbrev pub of_list : Field → Bool
of_list f = is_one_of list_fields f

-- the way to it
abbrev To : Members → Type 0
To r = Way of_list kind_and_list r

to_property : To property
unfolding passes
to_property = beyond tt (beyond tt (here tt))

to_seal : To seal
unfolding passes
to_seal = in_tag tt tt (beyond tt (beyond tt (in_tag tt tt to_property)))

to_list : (x : Record) → To (layout_of x)
unfolding passes
to_list Seal = to_seal
to_list Signature = in_tag tt tt (beyond tt (in_tag tt tt to_seal))

pub list_in : (x : Record) (v : Values (layout_of x)) → Oks (layout_of x) v → Holds of_list kind_and_list (record_of (layout_of x) v) (fields (layout_of x) v)
list_in x v o = held_in of_list kind_and_list (layout_of x) (to_list x) v o

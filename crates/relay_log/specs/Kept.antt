-- What refused requests were about, once it is kept.
use Rattle.std.specs.Prelude.{◌≡◌, ⊤}
use Rattle.relay_log.specs.declared.refused_line.Kept.{Kept}
use Rattle.relay_log.specs.declared.refused_line.Kept.TheVariants as kept
use Rattle.relay_log.specs.declared.subject.Subject.{Subject}
use Rattle.relay_log.specs.declared.subject.Subject.TheVariants as subjects

-- what is kept is this subject
abbrev pub IsAbout : Kept → Subject → Type 0
IsAbout (kept.Mount name) (subjects.Mount text) = name ≡ text.now
IsAbout kept.Others subjects.Others = ⊤
IsAbout kept.NoMount subjects.NoMount = ⊤
IsAbout a b = ⊥

-- the subject has no name, so that keeping it takes no memory
abbrev pub IsUnnamed : Subject → Type 0
IsUnnamed (subjects.Mount text) = ⊥
IsUnnamed subjects.Others = ⊤
IsUnnamed subjects.NoMount = ⊤

-- The version of the library, which include/ghazfulit.h names too. It is raised with every change of a number that is told or asked
-- with, of an answer's values, or of what the state's words mean (DECISIONS, "The library").
use Rattle.std.specs.Prelude.{ℕ}

abbrev pub library_version : ℕ
library_version = 7

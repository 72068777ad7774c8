-- The limits of L1, each number once.
use Rattle.records.specs.declared.Limits.{Limits}

-- "L1: at most 64 segments, 512 views, 128 runs, 32 borrows, 512 borrowed ids; prefix and extractor name at most 32 bytes,
-- key and path at most 64; all prefixes, keys (bounds too), paths and the name together at most 8,192 bytes"
unfoldable pub limits01 : Limits
limits01 =
    record {
      fill = record { segments = 64; views = 512; runs = 128; borrows = 32; ids = 512; bytes = 8192 };
      prefix = 32;
      name = 32;
      key = 64;
      path = 64;
    }

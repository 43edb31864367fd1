mod AfterDot
